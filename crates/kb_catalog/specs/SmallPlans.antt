-- A plan of two phases and a product, and what is told of them.
use Rattle.std.specs.Prelude.{◌≡◌, [], ◌∷◌, codes, Some, None, true, false, refl}
use Rattle.kb_days.specs.declared.span.Span.TheVariants.{Days, Unlimited}
use Rattle.kb_days.specs.declared.period.Period.TheVariants.{Monthly, Annual, NoBillingPeriod}
use Rattle.kb_catalog.specs.declared.product.Product.{Product}
use Rattle.kb_catalog.specs.declared.plan.Plan.{Plan}
use Rattle.kb_catalog.specs.declared.phase.Phase.{Phase}
use Rattle.kb_catalog.specs.declared.words.Category.TheVariants.{Base}
use Rattle.kb_catalog.specs.declared.words.PhaseType.TheVariants.{Trial, Evergreen}
use Rattle.kb_catalog.specs.Products.{has_name, lists_twice}
use Rattle.kb_catalog.specs.Plans.{plan_period, price_in, ends_unlimited, kinds_fit, bills_wrongly, is_asked}
use Rattle.kb_catalog.specs.Plans.{phase_prices_wrongly, has_repeat, agree}

-- 30 days for nothing, and then 10 dollars a month
abbrev trial : Phase
trial = record { kind = Trial; span = Days 30; fixed = []; period = NoBillingPeriod; recurring = [] }

abbrev evergreen : Phase
evergreen = record {
  kind = Evergreen;
  span = Unlimited;
  fixed = [];
  period = Monthly;
  recurring = record { currency = codes "USD"; amount = 1000 } ∷ [];
}

abbrev gold_monthly : Plan
gold_monthly = record {
  name = codes "gold-monthly";
  product = codes "Gold";
  phases = trial ∷ evergreen ∷ [];
}

-- the last phase tells the period, and its list of prices the price
by_the_month : plan_period gold_monthly ≡ Monthly
by_the_month = refl

ten_dollars : price_in (codes "USD") evergreen.recurring ≡ Some 1000
ten_dollars = refl

no_euros : price_in (codes "EUR") evergreen.recurring ≡ None
no_euros = refl

-- the last phase alone is unlimited
ends_well : ends_unlimited gold_monthly.phases ≡ true
ends_well = refl

ends_some_day : ends_unlimited (trial ∷ []) ≡ false
ends_some_day = refl

unlimited_twice : ends_unlimited (evergreen ∷ evergreen ∷ []) ≡ false
unlimited_twice = refl

-- an evergreen phase is the last one, which is no trial
kinds_in_order : kinds_fit gold_monthly.phases ≡ true
kinds_in_order = refl

ends_with_a_trial : kinds_fit (trial ∷ []) ≡ false
ends_with_a_trial = refl

evergreen_first : kinds_fit (evergreen ∷ evergreen ∷ []) ≡ false
evergreen_first = refl

-- a recurring price, and a period for which it is charged
price_and_period : bills_wrongly evergreen ≡ false
price_and_period = refl

period_alone : bills_wrongly (record evergreen { recurring = [] }) ≡ true
period_alone = refl

price_alone : bills_wrongly (record evergreen { period = NoBillingPeriod }) ≡ true
price_alone = refl

-- prices in the currencies that there are, each once
in_dollars : phase_prices_wrongly (codes "USD" ∷ []) evergreen ≡ false
in_dollars = refl

in_another_currency : phase_prices_wrongly (codes "EUR" ∷ []) evergreen ≡ true
in_another_currency = refl

in_dollars_twice : has_repeat (record { currency = codes "USD"; amount = 1000 }
    ∷ record { currency = codes "USD"; amount = 900 } ∷ []) ≡ true
in_dollars_twice = refl

-- asked for by product and period, among some names
asked_for : is_asked (codes "Gold") Monthly (codes "gold-monthly" ∷ []) gold_monthly ≡ true
asked_for = refl

asked_for_by_the_year : is_asked (codes "Gold") Annual (codes "gold-monthly" ∷ []) gold_monthly ≡ false
asked_for_by_the_year = refl

agrees_with_another_name : agree gold_monthly (record gold_monthly { name = codes "gold" }) ≡ true
agrees_with_another_name = refl

-- a product with one add-on, in both of its lists
abbrev gold : Product
gold = record {
  name = codes "Gold";
  category = Base;
  available = codes "Help" ∷ [];
  included = codes "Help" ∷ [];
}

has_help : has_name gold.available (codes "Help") ≡ true
has_help = refl

help_twice : lists_twice gold ≡ true
help_twice = refl

help_once : lists_twice (record gold { included = [] }) ≡ false
help_once = refl
