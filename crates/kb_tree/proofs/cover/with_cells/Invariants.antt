-- The cells so far, with those of the bills that are left, are all, and the next number is above theirs.
use Rattle.std.proofs.Common.{◌≡◌, ◌+◌, drop}
use Rattle.kb_tree.specs.Private.AfterCovers.{with_cells}
use Rattle.kb_tree.specs.Private.LeftCharges.{billed_from}
use Rattle.kb_tree.specs.Private.RisingBills.{AreBelow}
use Rattle.kb_tree.proofs.cover.with_cells.Given as goal

abbrev pub invariant-loop-bill : goal.invariant-loop-bill
invariant-loop-bill l =
    (with_cells l.more (billed_from l.number (drop l.bill-index l.bills))
    ≡ with_cells l.cells (billed_from l.first l.bills))
    × AreBelow l.more l.number
    × (l.number ≡ l.first + l.bill-index)
