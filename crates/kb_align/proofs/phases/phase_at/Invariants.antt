-- What is left gives, with the phase that was found, what all phases give.
use Rattle.std.proofs.Common.{◌≡◌, drop, Some}
use Rattle.kb_align.specs.Phases.{phase_on}
use Rattle.kb_align.proofs.Starts.{last_begun}
use Rattle.kb_align.proofs.phases.phase_at.Given as goal

abbrev pub invariant-loop-place : goal.invariant-loop-place
invariant-loop-place l =
    last_begun l.day (Some l.last) l.place l.start (drop l.place l.spans) ≡ phase_on l.fn.anchor l.spans l.day
