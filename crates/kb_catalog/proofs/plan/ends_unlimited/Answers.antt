use Rattle.std.proofs.Common.{refl}
use Rattle.kb_catalog.specs.declared.phase.Phase.{Phase}
use Rattle.kb_catalog.specs.Plans.{is_unlimited, ends_unlimited}
use Rattle.kb_catalog.proofs.LastMembers.{by_last_alone}
use Rattle.kb_catalog.proofs.plan.ends_unlimited.Goals as goal

pub returns-then-is_unlimited : goal.returns-then-is_unlimited
returns-then-is_unlimited c =
    let whole = by_last_alone ends_unlimited (λ (phase : Phase). is_unlimited phase.span)
    (λ (phase : Phase). is_unlimited phase.span)
    (λ member. refl) (λ member next later. refl) _ _ _ c.in-Some.ensures.cases.0 in
    rw (whole, ← c.is_unlimited.ensures, c.if-is_unlimited.true, c.some_unlimited.ensures) refl

pub returns-else-is_unlimited : goal.returns-else-is_unlimited
returns-else-is_unlimited c =
    let whole = by_last_alone ends_unlimited (λ (phase : Phase). is_unlimited phase.span)
    (λ (phase : Phase). is_unlimited phase.span)
    (λ member. refl) (λ member next later. refl) _ _ _ c.in-Some.ensures.cases.0 in
    rw (whole, ← c.is_unlimited.ensures, c.if-is_unlimited.false) refl
