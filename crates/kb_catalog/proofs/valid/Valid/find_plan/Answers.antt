-- Both places are there, and no other plan is sold so.
use Rattle.std.proofs.Common.{sym, ap, subst, ◌∙◌}
use Rattle.kb_catalog.specs.declared.version.Version.{Version}
use Rattle.kb_catalog.specs.VersionRules.{IsValid}
use Rattle.kb_catalog.proofs.BothPlaces.{both_places-some}
use Rattle.kb_catalog.proofs.OnlyPlans.{IsOnlyPlan-plan_at}
use Rattle.kb_catalog.proofs.valid.Valid.find_plan.Goals as goal

pub returns-clause-value : goal.returns-clause-value
returns-clause-value c =
    let lists = c.as_slice.ensures ∙ ap (λ (version : Version). version.lists)
    c.version-version.ensures.same in
    let plans = c.as_slice-2.ensures ∙ ap (λ (version : Version). version.plans)
    c.version-version.ensures.same in
    sym (both_places-some _ _ _ _ (rw (← lists) (sym c.in_ok-list_place.ensures.place))
    (rw (← lists, ← c.in_ok-list_place.ensures.sold, ← plans) (sym c.in_ok-plan_place.ensures)))

pub returns-clause-only : goal.returns-clause-only
returns-clause-only c =
    let valid = subst IsValid c.version-version.ensures.same c.version-version.ensures.valid in
    IsOnlyPlan-plan_at c.args.self.now valid c.args.product c.args.period c.args.list _
    (sym (returns-clause-value c))
