-- The numbers of the rules.
use Rattle.std.specs.Prelude.{ℕ, ◌≡◌, [], ◌∷◌, map, refl}
use Rattle.kb_catalog.specs.declared.rule.Rule.{Rule}
use Rattle.kb_catalog.specs.declared.rule.Rule.TheVariants.{Currencies, ProductNames, AddOns, AddOnsOnce}
use Rattle.kb_catalog.specs.declared.rule.Rule.TheVariants.{PlanNames, PlanProducts, LastPhase, PhaseKinds}
use Rattle.kb_catalog.specs.declared.rule.Rule.TheVariants.{PhasePeriods, Prices, Lists, Cases}
use Rattle.kb_catalog.specs.VersionRules.{all_rules}

-- the number of a rule
abbrev pub rule_number : Rule → ℕ
rule_number Currencies = 1
rule_number ProductNames = 2
rule_number AddOns = 3
rule_number AddOnsOnce = 4
rule_number PlanNames = 5
rule_number PlanProducts = 6
rule_number LastPhase = 7
rule_number PhaseKinds = 8
rule_number PhasePeriods = 9
rule_number Prices = 10
rule_number Lists = 11
rule_number Cases = 12

-- the rules are tried by rising number
numbers_in_order : map rule_number all_rules ≡ 1 ∷ 2 ∷ 3 ∷ 4 ∷ 5 ∷ 6 ∷ 7 ∷ 8 ∷ 9 ∷ 10 ∷ 11 ∷ 12 ∷ []
numbers_in_order = refl
