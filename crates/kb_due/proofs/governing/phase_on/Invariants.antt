-- What is left gives, with the phase that was found, what all phases give; and what was found has begun.
use Rattle.std.proofs.Common.{◌≡◌, ◌≤◌, drop, map, IfSome}
use Rattle.kb_days.specs.Calendar.{first_day}
use Rattle.kb_catalog.specs.declared.phase.Phase.{Phase}
use Rattle.kb_align.specs.declared.phases.PhaseAt.{PhaseAt}
use Rattle.kb_align.specs.Phases.{phase_on}
use Rattle.kb_align.proofs.Starts.{last_begun}
use Rattle.kb_due.proofs.governing.phase_on.Given as goal

abbrev pub invariant-loop-place : goal.invariant-loop-place
invariant-loop-place l =
    (last_begun l.day l.last l.place l.start (map (λ (phase : Phase). phase.span) (drop l.place l.phases))
    ≡ phase_on l.fn.anchor (map (λ (phase : Phase). phase.span) l.phases) l.day)
    × IfSome l.start (λ start. first_day ≤ start)
    × IfSome l.last (λ (phase : PhaseAt). (first_day ≤ phase.start) × (phase.start ≤ l.day))
