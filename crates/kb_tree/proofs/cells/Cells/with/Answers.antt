-- The bill that is added has the highest number, so it stands behind all others.
use Rattle.std.proofs.Common.{subst, sym}
use Rattle.kb_sharing.specs.Keys.{SharedEntries}
use Rattle.kb_due.specs.declared.cell.Cell.{Cell}
use Rattle.kb_tree.specs.Private.RisingBills.{AreBelow}
use Rattle.kb_tree.proofs.RisingBills.{rising-with, more-with}
use Rattle.kb_tree.proofs.cells.Cells.with.Goals as goal

pub invariant_of-result : goal.invariant_of-result
invariant_of-result c =
    rw c.in_ok-bills.ensures (rising-with c.self.inside.bills c.args.number c.args.cell c.self.invariant
    (subst (λ (cells : SharedEntries Cell). AreBelow cells c.args.number) (sym c.self.view_is)
    c.requires.above))

pub returns : goal.returns
returns c =
    rw (c.in_ok-bills.ensures, ← c.self.view_is)
    (more-with c.self.inside.bills c.args.number c.args.cell
    (subst (λ (cells : SharedEntries Cell). AreBelow cells c.args.number) (sym c.self.view_is)
    c.requires.above))
