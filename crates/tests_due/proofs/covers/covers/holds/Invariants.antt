-- The next number is above those of all bills.
use Rattle.kb_tree.specs.Covers.{IsAbove}
use Rattle.tests_due.proofs.covers.covers.holds.Given as goal

abbrev pub invariant-loop-turn : goal.invariant-loop-turn
invariant-loop-turn g l = IsAbove l.next l.cover
