-- The twelve rules of a version: where each is broken, and the first that is.
use Rattle.std.specs.Prelude.{ℕ, ◌+◌, ◌≡◌, Bool, not, ◌&&◌, ◌||◌, ◌==◌, bytes_eq, List, [], ◌∷◌, length}
use Rattle.std.specs.Prelude.{Option, Some, None, max, ◌<◌, ◌^◌, All}
use Rattle.std.specs.List.{list_any}
use Rattle.kb_catalog.specs.declared.version.Version.{Version}
use Rattle.kb_catalog.specs.declared.product.Product.{Product}
use Rattle.kb_catalog.specs.declared.plan.Plan.{Plan}
use Rattle.kb_catalog.specs.declared.price_list.PriceList.{PriceList}
use Rattle.kb_catalog.specs.declared.rule.Rule.{Rule}
use Rattle.kb_catalog.specs.declared.rule.Rule.TheVariants.{Currencies, ProductNames, AddOns, AddOnsOnce}
use Rattle.kb_catalog.specs.declared.rule.Rule.TheVariants.{PlanNames, PlanProducts, LastPhase, PhaseKinds}
use Rattle.kb_catalog.specs.declared.rule.Rule.TheVariants.{PhasePeriods, Prices, Lists, Cases}
use Rattle.kb_catalog.specs.declared.rule.CatalogFault.{CatalogFault}
use Rattle.kb_base.specs.Offenders.{first_place, passes_at, repeats_at}
use Rattle.kb_catalog.specs.Products.{is_empty, lists_twice}
use Rattle.kb_catalog.specs.VersionProducts.{has_product, lists_wrongly}
use Rattle.kb_catalog.specs.Plans.{ends_unlimited, kinds_fit, bills_wrongly, phase_prices_wrongly}
use Rattle.kb_catalog.specs.VersionLists.{sells_wrongly, has_list, default_list}
use Rattle.kb_catalog.specs.VersionCases.{decides_wrongly}
use Rattle.kb_catalog.specs.Cases.{asks_of_change, asks_of_plan, asks_of_create}

-- whether the rule list at a place is wrong: change policy, change alignment, cancel policy, create
-- alignment, billing alignment
abbrev pub rule_list_wrong : Version → ℕ → Bool
rule_list_wrong version place =
    (place == 0 && decides_wrongly version asks_of_change version.rules.change_policy)
    || (place == 1 && decides_wrongly version asks_of_change version.rules.change_alignment)
    || (place == 2 && decides_wrongly version asks_of_plan version.rules.cancel_policy)
    || (place == 3 && decides_wrongly version asks_of_create version.rules.create_alignment)
    || (place == 4 && decides_wrongly version asks_of_plan version.rules.billing_alignment)

-- where a rule is broken
abbrev pub is_broken_at : Version → Rule → ℕ → Bool
-- there is no currency, or the currency stands earlier
is_broken_at version Currencies place = is_empty version.currencies
    || repeats_at bytes_eq version.currencies place
-- the product's name stands earlier
is_broken_at version ProductNames place =
    repeats_at (λ (a : Product) (b : Product). bytes_eq a.name b.name) version.products place
-- the product isn't a base product and lists add-ons, or lists what is no add-on product
is_broken_at version AddOns place = passes_at version.products place (lists_wrongly version)
-- a name is both available and included in the product
is_broken_at version AddOnsOnce place = passes_at version.products place lists_twice
-- the plan's name stands earlier
is_broken_at version PlanNames place = repeats_at (λ (a : Plan) (b : Plan). bytes_eq a.name b.name)
    version.plans place
-- the plan's product isn't there
is_broken_at version PlanProducts place = passes_at version.plans place
    (λ (plan : Plan). not (has_product version plan.product))
-- the plan has no phase, its last phase isn't unlimited, or another one is
is_broken_at version LastPhase place = passes_at version.plans place
    (λ (plan : Plan). not (ends_unlimited plan.phases))
-- an evergreen phase isn't last, or the last phase is a trial or a discount
is_broken_at version PhaseKinds place = passes_at version.plans place
    (λ (plan : Plan). not (kinds_fit plan.phases))
-- a phase has a recurring price and no billing period, or a billing period and no recurring price
is_broken_at version PhasePeriods place = passes_at version.plans place
    (λ (plan : Plan). list_any bills_wrongly plan.phases)
-- a price names a currency that isn't among the version's, or one twice
is_broken_at version Prices place =
    passes_at version.plans place (λ (plan : Plan). list_any (phase_prices_wrongly version.currencies)
    plan.phases)
-- the list's name stands earlier, it names a plan that isn't there, or two of its plans agree in product and
-- billing period; behind the last list: no list is named DEFAULT
is_broken_at version Lists place =
    repeats_at (λ (a : PriceList) (b : PriceList). bytes_eq a.name b.name) version.lists place
    || passes_at version.lists place (sells_wrongly version)
    || (place == length version.lists && not (has_list version default_list))
-- the rule list is empty, its last case has a condition, or a case names a product or list that isn't there
is_broken_at version Cases place = rule_list_wrong version place

-- how many places a rule has
abbrev pub places : Version → Rule → ℕ
places version Currencies = max 1 (length version.currencies)
places version ProductNames = length version.products
places version AddOns = length version.products
places version AddOnsOnce = length version.products
places version PlanNames = length version.plans
places version PlanProducts = length version.plans
places version LastPhase = length version.plans
places version PhaseKinds = length version.plans
places version PhasePeriods = length version.plans
places version Prices = length version.plans
places version Lists = length version.lists + 1
places version Cases = 5

-- the first offender against a rule
abbrev pub first_offender : Version → Rule → Option ℕ
first_offender version rule = first_place (is_broken_at version rule) (places version rule)

-- a rule holds
abbrev pub Holds : Version → Rule → Type 0
Holds version rule = first_offender version rule ≡ None

-- the rules in their order
abbrev pub all_rules : List Rule
all_rules =
    Currencies ∷ ProductNames ∷ AddOns ∷ AddOnsOnce ∷ PlanNames ∷ PlanProducts ∷ LastPhase ∷ PhaseKinds
    ∷ PhasePeriods ∷ Prices ∷ Lists ∷ Cases ∷ []

-- the fault of some rules: the first that is broken, and its first offender
abbrev pub fault_among : Version → List Rule → Option CatalogFault
fault_among version [] = None
fault_among version (rule ∷ later) = of_offender (first_offender version rule) (fault_among version later)
  where
    of_offender : Option ℕ → Option CatalogFault → Option CatalogFault
    of_offender None rest = rest
    of_offender (Some place) rest = Some (record { rule = rule; index = place })

-- the fault of a version
abbrev pub fault_of : Version → Option CatalogFault
fault_of version = fault_among version all_rules

-- a version is valid: all twelve rules hold
abbrev pub IsValid : Version → Type 0
IsValid version = fault_of version ≡ None

-- the lists of a version, and the phases of each plan, have fewer than 2^32 members
abbrev pub HasCounts : Version → Type 0
HasCounts version =
    (length version.currencies < 2 ^ 32) × (length version.products < 2 ^ 32)
    × (length version.plans < 2 ^ 32) × (length version.lists < 2 ^ 32)
    × All (λ (plan : Plan). length plan.phases < 2 ^ 32) version.plans
