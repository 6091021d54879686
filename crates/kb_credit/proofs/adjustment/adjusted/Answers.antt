use Rattle.std.proofs.Common.{◌+◌, ◌-◌, get_or, pos, drop, ap, sym, ◌∙◌, arith}
use Rattle.std.proofs.lemmas.List.{drop_more}
use Rattle.kb_credit.specs.Sizes.{size_of}
use Rattle.kb_credit.specs.declared.adjustment.Adjustment.{Adjustment}
use Rattle.kb_credit.specs.Private.AdjustedRows.{adjusted}
use Rattle.kb_credit.proofs.AdjustedPlaces.{size_of-adjust_at}
use Rattle.kb_credit.proofs.adjustment.adjusted.Goals as goal

pub loop-one-preserved : goal.loop-one-preserved
loop-one-preserved c =
    let all = c.args.adjustments.now in
    let none : Adjustment = record { invoice = 0; amount = pos 0 } in
    let one = get_or all c.loop-one.one-index none in
    let later = drop (c.loop-one.one-index + 1) all in
    let rows = c.loop-one.changed in
    let cut = drop_more all c.loop-one.one-index none c.loop-one-test.true in
    let is = c.in_ok-changed-2.ensures in
    let size = ap (size_of (λ (one : Adjustment). one.amount)) cut in
    let more = size_of-adjust_at (one.invoice - 1) one.amount rows in
    let bounded = c.loop-one.invariant.bounded in
    record {
      whole = ap (adjusted later) is ∙ sym (ap (λ rest. adjusted rest rows) cut) ∙ c.loop-one.invariant.whole;
      bounded = rw is (omega arith);
    }
