-- The days so far, and those that follow from the end on, are all.
use Rattle.std.proofs.Common.{◌≡◌, ◌++◌, drop}
use Rattle.kb_blocking.specs.Private.Stretches.{turns_from, turn_days}
use Rattle.kb_blocking.proofs.turning.turn_days.Given as goal

abbrev pub invariant-loop-stretch : goal.invariant-loop-stretch
invariant-loop-stretch l =
    l.days.items ++ turns_from l.until (drop l.stretch-index l.later) ≡ turn_days l.fn.stretches
