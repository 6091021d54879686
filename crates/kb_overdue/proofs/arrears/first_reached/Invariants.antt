use Rattle.std.proofs.Common.{◌≡◌, ◌-◌, length}
use Rattle.kb_base.specs.Offenders.{first_place_from}
use Rattle.kb_overdue.specs.OverdueDays.{is_reached_at, first_reached}
use Rattle.kb_overdue.proofs.arrears.first_reached.Given as goal

abbrev pub invariant-loop-place : goal.invariant-loop-place
invariant-loop-place l =
    first_place_from (is_reached_at l.days l.arrears l.states) l.place (length l.states - l.place)
    ≡ first_reached l.days l.arrears l.states
