-- A version of two products, and the faults of a few that differ from it.
use Rattle.std.specs.Prelude.{◌≡◌, [], ◌∷◌, codes, Some, None, refl}
use Rattle.kb_days.specs.Dates.{january_2020}
use Rattle.kb_days.specs.declared.span.Span.TheVariants.{Days, Unlimited}
use Rattle.kb_days.specs.declared.period.Period.TheVariants.{Monthly}
use Rattle.kb_catalog.specs.declared.version.Version.{Version}
use Rattle.kb_catalog.specs.declared.product.Product.{Product}
use Rattle.kb_catalog.specs.declared.plan.Plan.{Plan}
use Rattle.kb_catalog.specs.declared.phase.Phase.{Phase}
use Rattle.kb_catalog.specs.declared.rules.Rules.{Rules}
use Rattle.kb_catalog.specs.SmallCases.{no_condition}
use Rattle.kb_catalog.specs.declared.words.Category.TheVariants.{Base, AddOn}
use Rattle.kb_catalog.specs.declared.words.PhaseType.TheVariants.{Trial, Evergreen}
use Rattle.kb_catalog.specs.declared.words.Policy.TheVariants.{Immediate}
use Rattle.kb_catalog.specs.declared.words.Align.TheVariants.{StartOfSubscription}
use Rattle.kb_catalog.specs.declared.words.CreateAlign.TheVariants.{StartOfSubscription as FromSubscription}
use Rattle.kb_catalog.specs.declared.words.BillingAlign.TheVariants.{Account}
use Rattle.kb_catalog.specs.declared.rule.Rule.TheVariants.{Currencies, ProductNames, AddOns, AddOnsOnce}
use Rattle.kb_catalog.specs.declared.rule.Rule.TheVariants.{PlanNames, PlanProducts, LastPhase, PhaseKinds}
use Rattle.kb_catalog.specs.declared.rule.Rule.TheVariants.{PhasePeriods, Prices, Lists, Cases}
use Rattle.kb_catalog.specs.VersionRules.{fault_of}

-- a base product with an add-on
abbrev gold : Product
gold = record { name = codes "Gold"; category = Base; available = codes "Help" ∷ []; included = [] }

-- the add-on
abbrev help : Product
help = record { name = codes "Help"; category = AddOn; available = []; included = [] }

-- 10 USD a month
abbrev pub monthly : Phase
monthly = record {
  kind = Evergreen;
  span = Unlimited;
  fixed = [];
  period = Monthly;
  recurring = record { currency = codes "USD"; amount = 1000 } ∷ [];
}

-- a plan of the base product
abbrev pub gold_monthly : Plan
gold_monthly = record { name = codes "gold-monthly"; product = codes "Gold"; phases = monthly ∷ [] }

-- one case without a condition in each rule list
abbrev open_rules : Rules
open_rules = record {
  change_policy = record { from = no_condition; phase = None; to = no_condition; answer = Immediate } ∷ [];
  change_alignment = record {
    from = no_condition;
    phase = None;
    to = no_condition;
    answer = StartOfSubscription;
  } ∷ [];
  cancel_policy = record { plan = no_condition; phase = None; answer = Immediate } ∷ [];
  create_alignment = record { plan = no_condition; alignment = FromSubscription } ∷ [];
  billing_alignment = record { plan = no_condition; phase = None; answer = Account } ∷ [];
}

-- a version in which all rules hold
abbrev pub small : Version
small = record {
  effective = january_2020 1;
  currencies = codes "USD" ∷ [];
  products = gold ∷ help ∷ [];
  plans = gold_monthly ∷ [];
  lists = record { name = codes "DEFAULT"; plans = codes "gold-monthly" ∷ [] } ∷ [];
  rules = open_rules;
}

sound : fault_of small ≡ None
sound = refl

no_currency : fault_of (record small { currencies = [] }) ≡ Some (record { rule = Currencies; index = 0 })
no_currency = refl

name_again : fault_of (record small { products = help ∷ gold ∷ gold ∷ [] })
    ≡ Some (record { rule = ProductNames; index = 2 })
name_again = refl

add_on_missing : fault_of (record small { products = gold ∷ [] }) ≡ Some (record { rule = AddOns; index = 0 })
add_on_missing = refl

product_missing : fault_of (record small { products = help ∷ [] })
    ≡ Some (record { rule = PlanProducts; index = 0 })
product_missing = refl

no_default_list : fault_of (record small { lists = [] }) ≡ Some (record { rule = Lists; index = 0 })
no_default_list = refl

add_on_in_both_lists : fault_of (record small {
  products =
      record gold { included = codes "Help" ∷ [] } ∷ help ∷ [];
}) ≡ Some (record { rule = AddOnsOnce; index = 0 })
add_on_in_both_lists = refl

plan_name_again : fault_of (record small { plans = gold_monthly ∷ gold_monthly ∷ [] })
    ≡ Some (record { rule = PlanNames; index = 1 })
plan_name_again = refl

-- the small version with another phase in its plan
abbrev with_phase : Phase → Version
with_phase phase = record small { plans = record gold_monthly { phases = phase ∷ [] } ∷ [] }

an_end : fault_of (with_phase (record monthly { span = Days 30 }))
    ≡ Some (record { rule = LastPhase; index = 0 })
an_end = refl

trial_at_the_end : fault_of (with_phase (record monthly { kind = Trial }))
    ≡ Some (record { rule = PhaseKinds; index = 0 })
trial_at_the_end = refl

period_without_a_price : fault_of (with_phase (record monthly { recurring = [] }))
    ≡ Some (record { rule = PhasePeriods; index = 0 })
period_without_a_price = refl

price_in_euros : fault_of (with_phase (record monthly
    { fixed = record { currency = codes "EUR"; amount = 5 } ∷ [] }))
    ≡ Some (record { rule = Prices; index = 0 })
price_in_euros = refl

plan_twice_in_a_list : fault_of (record small {
  lists =
      record { name = codes "DEFAULT"; plans = codes "gold-monthly" ∷ codes "gold-monthly" ∷ [] } ∷ [];
})
    ≡ Some (record { rule = Lists; index = 0 })
plan_twice_in_a_list = refl

no_cancel_policy : fault_of (record small { rules = record open_rules { cancel_policy = [] } })
    ≡ Some (record { rule = Cases; index = 2 })
no_cancel_policy = refl
