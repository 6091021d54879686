-- The numbers are counted on.
use Rattle.std.proofs.Common.{◌≡◌, ◌+◌}
use Rattle.tests_due.proofs.covers.covers.with_items.Given as goal

abbrev pub invariant-loop-item : goal.invariant-loop-item
invariant-loop-item g l = l.next ≡ l.fn.first + l.item-index
