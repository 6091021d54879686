-- Of the phases that are left the first with a recurring price is that of all.
use Rattle.std.proofs.Common.{◌≡◌, drop, map}
use Rattle.std.specs.List.{zip}
use Rattle.kb_catalog.specs.declared.phase.Phase.{Phase}
use Rattle.kb_align.specs.Phases.{starts_from}
use Rattle.kb_due.specs.CycleDays.{first_billed, first_billed_start}
use Rattle.kb_due.proofs.cycle_day.first_billed_start.Given as goal

abbrev pub invariant-loop-phase : goal.invariant-loop-phase
invariant-loop-phase l =
    first_billed l.currency (zip (starts_from l.start
    (map (λ (phase : Phase). phase.span) (drop l.phase-index l.plan.phases)))
    (drop l.phase-index l.plan.phases))
    ≡ first_billed_start l.currency l.fn.anchor l.plan
