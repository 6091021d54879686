use Rattle.std.proofs.Common.{arith, sym, ◌∙◌}
use Rattle.kb_credit.proofs.PassSteps.{due_more}
use Rattle.kb_credit.proofs.open_invoice.due_count.Goals as goal

pub overflow_add-count : goal.overflow_add-count
overflow_add-count c =
    let most = due_more c.args.invoices.now c.loop-one.one-index c.one-item.result c.loop-one.count
    c.loop-one-test.true c.one-item.is (sym c.is_due.ensures ∙ c.if-is_due.true) c.loop-one.invariant in
    let few = c.requires.few in
    record { fits = omega (arith, most, few) }
