use Rattle.std.proofs.Common.{◌≡◌, ◌+◌, ◌++◌, drop, arith, ◌+ℤ◌, ap, sym, ◌∙◌, to_z, of_z, to_z-of_z}
use Rattle.std.specs.Int.{w128}
use Rattle.std.proofs.lemmas.List.{drop_all}
use Rattle.kb_credit.specs.Private.Passes.{all_made, with_all_made}
use Rattle.kb_credit.proofs.PassSteps.{drop_one, fits, made_step, noted_step, made_bound}
use Rattle.kb_credit.proofs.levelling.make_credit.Goals as goal

pub overflow_add-left : goal.overflow_add-left
overflow_add-left c =
    let value : to_z w128 (of_z w128 c.made-amount.result) ≡ c.made-amount.result =
    to_z-of_z {w = w128} (record { sfits = c.made-amount.type_inv }) in
    let small = made_bound c.args.invoices.now c.loop-one.one-index c.one-item.result
    (to_z w128 c.loop-one.left-bits) (to_z w128 (of_z w128 c.made-amount.result))
    c.loop-one-test.true c.one-item.is c.loop-one.invariant.bounded (rw value c.made-amount.ensures.size) in
    fits _ (omega (arith, small))

pub loop-one-preserved : goal.loop-one-preserved
loop-one-preserved c =
    let all = c.args.invoices.now in
    let left = to_z w128 c.loop-one.left-bits in
    let amount = to_z w128 (of_z w128 c.made-amount.result) in
    let later = drop (c.loop-one.one-index + 1) all in
    let cut = drop_one all c.loop-one.one-index c.one-item.result c.loop-one-test.true c.one-item.is in
    let value : amount ≡ c.made-amount.result =
    to_z-of_z {w = w128} (record { sfits = c.made-amount.type_inv }) in
    let small = made_bound all c.loop-one.one-index c.one-item.result left amount
    c.loop-one-test.true c.one-item.is c.loop-one.invariant.bounded (rw value c.made-amount.ensures.size) in
    let same : to_z w128 (of_z w128 (left +ℤ amount)) ≡ left +ℤ amount =
    to_z-of_z {w = w128} (fits (left +ℤ amount) (omega (arith, small))) in
    record {
      credit = made_step c.one-item.result later left amount _ _
          (ap (λ rest. with_all_made left rest) (sym cut) ∙ c.loop-one.invariant.credit)
          (value ∙ c.made-amount.ensures.value)
          same;
      noted = noted_step c.one-item.result.invoice _ amount c.loop-one.adjustments.items _ (all_made later) _
          (ap (λ rest. c.loop-one.adjustments.items ++ all_made rest) (sym cut) ∙ c.loop-one.invariant.noted)
          (value ∙ c.made-amount.ensures.value)
          c.in_ok-note.ensures;
      bounded = rw same small;
    }

pub returns-clause-credit : goal.returns-clause-credit
returns-clause-credit c =
    sym (ap (with_all_made (to_z w128 c.loop-one.left-bits))
    (drop_all c.loop-one.one-index c.args.invoices.now c.loop-one-test.false))
    ∙ c.loop-one.invariant.credit
    ∙ ap (λ credit. with_all_made credit c.args.invoices.now) (to_z-of_z c.ranges.credit)
