-- A bill more has the number that is above all others, and the next number is above it.
use Rattle.std.proofs.Common.{◌+◌, sym, ap, subst, arith}
use Rattle.kb_base.specs.Runs.{Stretch}
use Rattle.kb_sharing.specs.Keys.{SharedEntries}
use Rattle.kb_due.specs.declared.cell.Cell.{Cell}
use Rattle.kb_tree.specs.Private.RisingBills.{AreBelow}
use Rattle.kb_tree.proofs.CellMaps.{next-above, next-cells}
use Rattle.kb_tree.proofs.cover.with_cells.Goals as goal

pub loop-bill-preserved : goal.loop-bill-preserved
loop-bill-preserved c = (
  rw c.in_ok-more-2.ensures (next-cells c.loop-bill.more _ c.loop-bill.number c.loop-bill.bill-index
      c.args.bills.now c.bill-item.result c.bill.inside.value c.loop-bill-test.true c.bill-item.is
      (ap (λ (bill : Stretch Cell). bill.value) c.bill.view_is) c.loop-bill.invariant.0),
  subst (λ (more : SharedEntries Cell). AreBelow more (c.loop-bill.number + 1)) (sym c.in_ok-more-2.ensures)
      (next-above c.loop-bill.more c.loop-bill.number c.bill.inside.value c.loop-bill.invariant.1),
  omega (arith, c.loop-bill.invariant.2),
)
