-- Of each plan of a valid version the last phase alone is unlimited.
use Rattle.std.proofs.Common.{◌≡◌, true, false, not, List, [], ◌∷◌, get_or, All, refl, sym, ◌∙◌}
use Rattle.std.proofs.lemmas.Bool.{and_parts, not-true, not-false}
use Rattle.std.proofs.lemmas.Option.{slice_get-get_or}
use Rattle.kb_days.specs.declared.span.Span.{Span}
use Rattle.kb_days.specs.declared.span.Span.TheVariants.{Days, Weeks, Months, Years, Unlimited}
use Rattle.kb_catalog.specs.declared.version.Version.{Version}
use Rattle.kb_catalog.specs.declared.plan.Plan.{Plan}
use Rattle.kb_catalog.specs.declared.phase.Phase.{Phase}
use Rattle.kb_catalog.specs.declared.rule.Rule.TheVariants.{LastPhase}
use Rattle.kb_catalog.specs.Plans.{is_unlimited, ends_unlimited}
use Rattle.kb_catalog.specs.VersionRules.{IsValid}
use Rattle.kb_catalog.specs.ValidVersions.{EndsUnlimited}
use Rattle.kb_catalog.proofs.RulesHold.{valid-nowhere_broken}
use Rattle.kb_catalog.proofs.DistinctNames.{passes_at-some}

-- a span that is unlimited
unlimited : (span : Span) → is_unlimited span ≡ true → span ≡ Unlimited
unlimited (Days count) holds = absurd (cc)
unlimited (Weeks count) holds = absurd (cc)
unlimited (Months count) holds = absurd (cc)
unlimited (Years count) holds = absurd (cc)
unlimited Unlimited holds = refl

-- one more phase before, which isn't unlimited
EndsUnlimited-cons : (phase : Phase) (later : List Phase) → is_unlimited phase.span ≡ false
    → EndsUnlimited later
    → EndsUnlimited (phase ∷ later)
EndsUnlimited-cons phase later limited ends =
    record {
      earlier = phase ∷ ends.earlier;
      last = ends.last;
      all = rw ends.all refl;
      unlimited = ends.unlimited;
      alone = rw (limited, ends.alone) refl;
    }

-- where the test passes
EndsUnlimited-test : (phases : List Phase) → ends_unlimited phases ≡ true → EndsUnlimited phases
EndsUnlimited-test [] holds = absurd (cc)
EndsUnlimited-test (phase ∷ []) holds =
    record { earlier = []; last = phase; all = refl; unlimited = unlimited phase.span holds; alone = refl }
EndsUnlimited-test (phase ∷ next ∷ later) holds =
    let parts = and_parts _ _ holds in
    EndsUnlimited-cons phase (next ∷ later) (not-true _ parts.0) (EndsUnlimited-test (next ∷ later) parts.1)

-- each plan's phases end so
pub EndsUnlimited-valid : (version : Version) → IsValid version
    → All (λ (plan : Plan). EndsUnlimited plan.phases) version.plans
EndsUnlimited-valid version valid place d within =
    let at = slice_get-get_or version.plans place d within in
    let wrong = valid-nowhere_broken version valid LastPhase place within in
    let right = sym (passes_at-some version.plans place (λ (plan : Plan). not (ends_unlimited plan.phases))
    (get_or version.plans place d) at) ∙ wrong in
    EndsUnlimited-test (get_or version.plans place d).phases (not-false _ right)
