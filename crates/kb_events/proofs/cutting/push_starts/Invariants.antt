-- What holds of the starts that are left holds of all, among whichever days keep those so far.
use Rattle.std.proofs.Common.{ℕ, List, drop, map}
use Rattle.kb_catalog.specs.declared.phase.Phase.{Phase}
use Rattle.kb_align.specs.Phases.{starts_from, phase_starts}
use Rattle.kb_events.specs.Private.Cuts.{HasStarts, KeepsDays}
use Rattle.kb_events.proofs.cutting.push_starts.Given as goal

abbrev pub invariant-loop-phase : goal.invariant-loop-phase
invariant-loop-phase l =
    KeepsDays l.fn.days.items l.days.items
    × ((more : List ℕ) → KeepsDays l.days.items more
    → HasStarts more (starts_from l.start (map (λ (phase : Phase). phase.span) (drop l.phase-index l.phases)))
    → HasStarts more (phase_starts l.fn.anchor (map (λ (phase : Phase). phase.span) l.phases)))
