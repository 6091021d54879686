use Rattle.std.proofs.Common.{refl}
use Rattle.kb_catalog.specs.declared.phase.Phase.{Phase}
use Rattle.kb_catalog.specs.Plans.{is_evergreen, may_end, kinds_fit}
use Rattle.kb_catalog.proofs.LastMembers.{by_last_alone}
use Rattle.kb_catalog.proofs.plan.kinds_fit.Goals as goal

pub returns-then-may_end : goal.returns-then-may_end
returns-then-may_end c =
    let whole = by_last_alone kinds_fit (λ (phase : Phase). may_end phase.kind)
    (λ (phase : Phase). is_evergreen phase.kind)
    (λ member. refl) (λ member next later. refl) _ _ _ c.in-Some.ensures.cases.0 in
    rw (whole, ← c.may_end.ensures, c.if-may_end.true, c.some_evergreen.ensures) refl

pub returns-else-may_end : goal.returns-else-may_end
returns-else-may_end c =
    let whole = by_last_alone kinds_fit (λ (phase : Phase). may_end phase.kind)
    (λ (phase : Phase). is_evergreen phase.kind)
    (λ member. refl) (λ member next later. refl) _ _ _ c.in-Some.ensures.cases.0 in
    rw (whole, ← c.may_end.ensures, c.if-may_end.false) refl
