-- The numbers below `low` are too low, and those from `high` on aren't.
use Rattle.std.proofs.Common.{◌-◌, ◌<◌, ◌≤◌, length}
use Rattle.std.specs.List.{AllWithin}
use Rattle.kb_tree.specs.Private.RisingBills.{NumberedCell}
use Rattle.kb_tree.proofs.cells.count_below.Given as goal

abbrev pub invariant-loop-low : goal.invariant-loop-low
invariant-loop-low l =
    (l.low ≤ l.high) × (l.high ≤ length l.bills)
    × AllWithin (λ (bill : NumberedCell). bill.0 < l.number) l.bills 0 l.low
    × AllWithin (λ (bill : NumberedCell). l.number ≤ bill.0) l.bills l.high (length l.bills)

abbrev pub decreases-loop-low : goal.decreases-loop-low
decreases-loop-low l = l.high - l.low
