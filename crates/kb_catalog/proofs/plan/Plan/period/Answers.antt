-- The last phase decides alone.
use Rattle.std.proofs.Common.{refl, sym}
use Rattle.kb_catalog.specs.declared.phase.Phase.{Phase}
use Rattle.kb_catalog.specs.Plans.{last_period}
use Rattle.kb_catalog.proofs.LastMembers.{by_last}
use Rattle.kb_catalog.proofs.plan.Plan.period.Goals as goal

pub returns-in-Some : goal.returns-in-Some
returns-in-Some c =
    sym (by_last last_period (λ (phase : Phase). phase.period) (λ member. refl) (λ member next later. refl) _
    _ _
    (rw c.as_slice.ensures at c.in-Some.ensures.cases.0))
