-- The bills so far and those that are left are all.
use Rattle.std.proofs.Common.{◌≡◌, ◌+◌, ◌++◌, drop}
use Rattle.kb_tree.specs.Private.LeftCharges.{billed_from}
use Rattle.kb_tree.proofs.live.billed_from.Given as goal

abbrev pub invariant-loop-bill : goal.invariant-loop-bill
invariant-loop-bill l =
    (l.number ≡ l.fn.first + l.bill-index)
    × (l.found.items ++ billed_from l.number (drop l.bill-index l.bills) ≡ billed_from l.fn.first l.bills)
