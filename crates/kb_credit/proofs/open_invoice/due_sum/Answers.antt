use Rattle.std.proofs.Common.{◌+◌, drop, arith, ◌+ℤ◌, ap, sym, ◌∙◌, to_z, of_z, to_z-of_z}
use Rattle.std.specs.Int.{w128}
use Rattle.std.specs.Prelude.{FitsSigned}
use Rattle.std.proofs.lemmas.Int.{ints}
use Rattle.kb_credit.specs.Private.OpenInvoices.{due_sum}
use Rattle.kb_credit.proofs.PassSteps.{drop_one, due_step, due_fits}
use Rattle.kb_credit.proofs.open_invoice.due_sum.Goals as goal

pub overflow_add-sum : goal.overflow_add-sum
overflow_add-sum c =
    let all = c.args.invoices.now in
    let sum = to_z w128 c.loop-one.sum-bits in
    let cut = drop_one all c.loop-one.one-index c.one-item.result c.loop-one-test.true c.one-item.is in
    due_fits c.one-item.result (drop (c.loop-one.one-index + 1) all) all sum
    (to_z w128 (of_z w128 c.due-sum.result))
    (ap (λ rest. sum +ℤ due_sum rest) (sym cut) ∙ c.loop-one.invariant.whole)
    c.loop-one.invariant.least
    (to_z-of_z {w = w128} (record { sfits = c.due-sum.type_inv }) ∙ c.due-sum.ensures.value)
    c.requires.bounded

pub loop-one-preserved : goal.loop-one-preserved
loop-one-preserved c =
    let all = c.args.invoices.now in
    let sum = to_z w128 c.loop-one.sum-bits in
    let amount = to_z w128 (of_z w128 c.due-sum.result) in
    let cut = drop_one all c.loop-one.one-index c.one-item.result c.loop-one-test.true c.one-item.is in
    let before = ap (λ rest. sum +ℤ due_sum rest) (sym cut) ∙ c.loop-one.invariant.whole in
    let value = to_z-of_z {w = w128} (record { sfits = c.due-sum.type_inv }) ∙ c.due-sum.ensures.value in
    let fits : FitsSigned w128 (sum +ℤ amount) =
    due_fits c.one-item.result (drop (c.loop-one.one-index + 1) all) all sum amount before
    c.loop-one.invariant.least value c.requires.bounded in
    let least = c.loop-one.invariant.least in
    let more = c.due-sum.ensures.least in
    record {
      whole = due_step c.one-item.result (drop (c.loop-one.one-index + 1) all) sum amount _ _ before value
          (to_z-of_z {w = w128} fits);
      least = omega (arith, ints);
    }
