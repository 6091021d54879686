-- No stretch that was passed has the day.
use Rattle.std.proofs.Common.{◌≡◌, length, map}
use Rattle.kb_base.specs.Runs.{values_on}
use Rattle.kb_days.specs.Calendar.{end_of_days}
use Rattle.kb_tree.specs.Private.Rests.{AreLeft}
use Rattle.kb_tree.proofs.walking.left_at.Given as goal

abbrev pub invariant-loop-first : goal.invariant-loop-first
invariant-loop-first g l =
    AreLeft end_of_days (map g.S.Stretched.stretch l.rest)
    × (values_on l.day (map g.S.Stretched.stretch l.rest) ≡ values_on l.day (map g.S.Stretched.stretch l.all))

abbrev pub decreases-loop-first : goal.decreases-loop-first
decreases-loop-first g l = length l.rest
