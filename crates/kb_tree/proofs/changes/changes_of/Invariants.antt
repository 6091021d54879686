-- The days before this one are told, and what is left of both lists has all from it on.
use Rattle.std.proofs.Common.{◌≤◌, ◌-◌, map}
use Rattle.kb_base.specs.Runs.{values_on}
use Rattle.kb_days.specs.Calendar.{first_day, end_of_days}
use Rattle.kb_due.specs.CellStretches.{stretch_of}
use Rattle.kb_tree.specs.Covers.{due_in}
use Rattle.kb_tree.specs.Private.Rests.{IsRest}
use Rattle.kb_tree.specs.Private.Walks.{AreChanges}
use Rattle.kb_tree.proofs.changes.changes_of.Given as goal

abbrev pub invariant-loop-charges : goal.invariant-loop-charges
invariant-loop-charges l =
    (first_day ≤ l.day) × (l.day ≤ end_of_days) × IsRest l.fn.live l.day (map (λ days. days) l.charges)
    × IsRest (map stretch_of l.fn.pieces) l.day (map stretch_of l.due)
    × AreChanges (λ day. values_on day l.fn.live) (due_in (map stretch_of l.fn.pieces)) l.day
    l.found.repairs.items l.found.bills.items

abbrev pub decreases-loop-charges : goal.decreases-loop-charges
decreases-loop-charges l = end_of_days - l.day
