-- No event stands on the days that were passed.
use Rattle.std.proofs.Common.{◌≡◌, ◌<◌, ◌≤◌, ℕ, false}
use Rattle.kb_due.specs.DueDays.{is_event}
use Rattle.kb_due.proofs.due.event_by.Given as goal

abbrev pub invariant-loop-number : goal.invariant-loop-number
invariant-loop-number l =
    (l.governing.entry.day ≤ l.number) × (l.number ≤ l.fn.day)
    × ((other : ℕ) → l.number < other → other ≤ l.fn.day → is_event l.facts l.subscription l.sub l.governing
    other ≡ false)

abbrev pub decreases-loop-number : goal.decreases-loop-number
decreases-loop-number l = l.number
