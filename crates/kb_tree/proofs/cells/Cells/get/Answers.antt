-- The bill behind those with lower numbers has the number, or no bill does.
use Rattle.std.proofs.Common.{◌∙◌, sym}
use Rattle.kb_tree.proofs.RisingBills.{get-none, get-same, get-other}
use Rattle.kb_tree.proofs.cells.Cells.get.Goals as goal

pub returns-in_err-at : goal.returns-in_err-at
returns-in_err-at c =
    rw (← c.self.view_is) (c.from_residual.ensures ∙ sym (get-none c.args.number c.self.inside.bills
    c.count_below-place.result c.self.invariant c.count_below-place.ensures (sym c.in_err-at.ensures)))

pub returns-then-number-at : goal.returns-then-number-at
returns-then-number-at c =
    rw (← c.self.view_is) (sym (get-same c.args.number c.self.inside.bills
    c.count_below-place.result c.self.invariant c.count_below-place.ensures c.in_ok-at.field-0.now
    (sym c.in_ok-at.ensures) c.if-number-at.true))

pub returns-else-number-at : goal.returns-else-number-at
returns-else-number-at c =
    rw (← c.self.view_is) (sym (get-other c.args.number c.self.inside.bills
    c.count_below-place.result c.self.invariant c.count_below-place.ensures c.in_ok-at.field-0.now
    (sym c.in_ok-at.ensures) c.if-number-at.false))
