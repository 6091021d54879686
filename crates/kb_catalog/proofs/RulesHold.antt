-- A version is valid where each of the twelve rules holds, and only there.
use Rattle.std.proofs.Common.{◌≡◌, ℕ, ◌<◌, false, List, [], ◌∷◌, Option, Some, None, refl}
use Rattle.kb_catalog.specs.declared.version.Version.{Version}
use Rattle.kb_catalog.specs.declared.rule.Rule.{Rule}
use Rattle.kb_catalog.specs.declared.rule.Rule.TheVariants.{Currencies, ProductNames, AddOns, AddOnsOnce}
use Rattle.kb_catalog.specs.declared.rule.Rule.TheVariants.{PlanNames, PlanProducts, LastPhase, PhaseKinds}
use Rattle.kb_catalog.specs.declared.rule.Rule.TheVariants.{PhasePeriods, Prices, Lists, Cases}
use Rattle.kb_catalog.specs.VersionRules.{is_broken_at, places, first_offender, fault_among, Holds, IsValid}
use Rattle.kb_catalog.specs.VersionRules.{all_rules}
use Rattle.kb_base.proofs.FirstPlaces.{first_place-fails}

-- each of some rules holds
abbrev pub AllHold : Version → List Rule → Type 0
AllHold version [] = Unit {0}
AllHold version (rule ∷ later) = Holds version rule × AllHold version later

module _ (version : Version) where
  -- without a fault among some rules the first of them holds, and there is none among the others
  fault_among-none : (rule : Rule) (later : List Rule) → fault_among version (rule ∷ later) ≡ None
      → Holds version rule × (fault_among version later ≡ None)
  fault_among-none rule later none = by_offender (first_offender version rule) refl
    where
      by_offender : (offender : Option ℕ) → first_offender version rule ≡ offender
          → Holds version rule × (fault_among version later ≡ None)
      by_offender None is = (is, rw is at none)
      by_offender (Some place) is = let found = rw is at none in (cc, cc)

  -- without a fault among some rules each of them holds
  all-hold : (rules : List Rule) → fault_among version rules ≡ None → AllHold version rules
  all-hold [] none = tt
  all-hold (rule ∷ later) none =
      let split = fault_among-none rule later none in (split.0, all-hold later split.1)

  -- where each of some rules holds there is no fault among them
  holding-none : (rules : List Rule) → AllHold version rules → fault_among version rules ≡ None
  holding-none [] hold = refl
  holding-none (rule ∷ later) hold = let holds = hold.0 in rw holds (holding-none later hold.1)

  -- each rule of a valid version holds
  pub valid-holds : IsValid version → (rule : Rule) → Holds version rule
  valid-holds valid rule = by_rule rule (all-hold all_rules valid)
    where
      by_rule : (rule : Rule) → AllHold version all_rules → Holds version rule
      by_rule Currencies hold = hold.0
      by_rule ProductNames hold = hold.1.0
      by_rule AddOns hold = hold.1.1.0
      by_rule AddOnsOnce hold = hold.1.1.1.0
      by_rule PlanNames hold = hold.1.1.1.1.0
      by_rule PlanProducts hold = hold.1.1.1.1.1.0
      by_rule LastPhase hold = hold.1.1.1.1.1.1.0
      by_rule PhaseKinds hold = hold.1.1.1.1.1.1.1.0
      by_rule PhasePeriods hold = hold.1.1.1.1.1.1.1.1.0
      by_rule Prices hold = hold.1.1.1.1.1.1.1.1.1.0
      by_rule Lists hold = hold.1.1.1.1.1.1.1.1.1.1.0
      by_rule Cases hold = hold.1.1.1.1.1.1.1.1.1.1.1.0

  -- a version whose rules all hold is valid
  pub holds-valid : ((rule : Rule) → Holds version rule) → IsValid version
  holds-valid hold =
      holding-none all_rules (
        hold Currencies,
        (
          hold ProductNames,
          (
            hold AddOns,
            (
              hold AddOnsOnce,
              (
                hold PlanNames,
                (
                  hold PlanProducts,
                  (
                    hold LastPhase,
                    (
                      hold PhaseKinds,
                      (hold PhasePeriods, (hold Prices, (hold Lists, (hold Cases, tt)))),
                    ),
                  ),
                ),
              ),
            ),
          ),
        ),
      )

  -- a valid version breaks no rule at any place
  pub valid-nowhere_broken : IsValid version → (rule : Rule) (place : ℕ) → place < places version rule
      → is_broken_at version rule place ≡ false
  valid-nowhere_broken valid rule place within =
      first_place-fails (is_broken_at version rule) (places version rule) place (valid-holds valid rule)
      within
