-- The charges of the days before this one are told, and what is left of the lists has all from it on.
use Rattle.std.proofs.Common.{◌≡◌, ◌≤◌, ◌-◌, map}
use Rattle.kb_base.specs.Runs.{runs}
use Rattle.kb_days.specs.Calendar.{first_day, end_of_days}
use Rattle.kb_tree.specs.Private.Rests.{IsRest}
use Rattle.kb_tree.specs.Private.Walks.{same_charge, charge_on}
use Rattle.kb_tree.proofs.live.live_after.Given as goal

abbrev pub invariant-loop-before : goal.invariant-loop-before
invariant-loop-before l =
    (first_day ≤ l.day) × (l.day ≤ end_of_days) × IsRest l.live l.day (map (λ days. days) l.before)
    × IsRest l.repairs l.day (map (λ days. days) l.repaired)
    × IsRest l.bills l.day (map (λ days. days) l.billed)
    × (l.found.items ≡ runs same_charge (charge_on l.live l.repairs l.bills) first_day (l.day - first_day))

abbrev pub decreases-loop-before : goal.decreases-loop-before
decreases-loop-before l = end_of_days - l.day
