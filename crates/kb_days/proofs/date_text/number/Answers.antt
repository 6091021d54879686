use Rattle.std.proofs.Common.{◌≡◌, ◌<◌, ◌^◌, length, Some, ap, arith}
use Rattle.kb_days.proofs.Digits.{digits-get_or, digits-take, digits-only, digits-whole, digits_bound}
use Rattle.kb_days.proofs.date_text.number.Goals as goal

pub returns-then-not-is_ascii_digit-clause-all : goal.returns-then-not-is_ascii_digit-clause-all
returns-then-not-is_ascii_digit-clause-all c number low e =
    let digit = digits-get_or c.args.text.now number c.loop-digit.digit-index c.loop-digit-test.true e in
    let other = rw c.if-not-is_ascii_digit.true at c.is_ascii_digit.ensures.cases in
    absurd (omega arith)

pub loop-digit-preserved : goal.loop-digit-preserved
loop-digit-preserved c =
    let digit = rw c.if-not-is_ascii_digit.false at c.is_ascii_digit.ensures.cases in
    let more = digits-take c.args.text.now c.loop-digit.digit-index c.loop-digit.number c.loop-digit-test.true
    c.loop-digit.invariant.0 digit in (
      rw c.from.ensures more,
      digits_bound c.loop-digit.digit-index c.loop-digit.number c.from.result
          c.loop-digit.invariant.1 (omega arith),
    )

pub returns-clause-all : goal.returns-clause-all
returns-clause-all c number low e =
    let whole : c.loop-digit.digit-index ≡ length c.args.text.now = omega arith in
    let read = digits-whole c.args.text.now c.loop-digit.digit-index c.loop-digit.number whole
    c.loop-digit.invariant.0 in
    let bound : c.loop-digit.number < 10 ^ length c.args.text.now = rw (← whole) c.loop-digit.invariant.1 in
    ap Some (digits-only c.args.text.now c.loop-digit.number number bound low read e)
