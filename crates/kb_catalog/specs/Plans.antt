-- Plans, their phases and prices.
use Rattle.std.specs.Prelude.{ℕ, Bool, true, false, not, ◌&&◌, ◌||◌, bytes_eq, List, [], ◌∷◌, find, Option}
use Rattle.std.specs.Prelude.{option_map}
use Rattle.std.specs.List.{list_any}
use Rattle.kb_days.specs.declared.span.Span.{Span}
use Rattle.kb_days.specs.declared.span.Span.TheVariants.{Days, Weeks, Months, Years, Unlimited}
use Rattle.kb_days.specs.declared.period.Period.{Period}
use Rattle.kb_days.specs.declared.period.Period.TheVariants.{Daily, Weekly, Biweekly, ThirtyDays, Monthly}
use Rattle.kb_days.specs.declared.period.Period.TheVariants.{Quarterly, Biannual, Annual, Biennial}
use Rattle.kb_days.specs.declared.period.Period.TheVariants.{NoBillingPeriod}
use Rattle.kb_catalog.specs.declared.plan.Plan.{Plan}
use Rattle.kb_catalog.specs.declared.phase.Phase.{Phase}
use Rattle.kb_catalog.specs.declared.phase.Price.{Price}
use Rattle.kb_catalog.specs.declared.words.PhaseType.{PhaseType}
use Rattle.kb_catalog.specs.declared.words.PhaseType.TheVariants.{Trial, Discount, FixedTerm, Evergreen}
use Rattle.kb_catalog.specs.Words.{same_period}
use Rattle.kb_catalog.specs.Products.{is_empty, has_name}

abbrev pub is_unlimited : Span → Bool
is_unlimited (Days count) = false
is_unlimited (Weeks count) = false
is_unlimited (Months count) = false
is_unlimited (Years count) = false
is_unlimited Unlimited = true

-- there is a phase, and the last phase alone is unlimited
abbrev pub ends_unlimited : List Phase → Bool
ends_unlimited [] = false
ends_unlimited (phase ∷ []) = is_unlimited phase.span
ends_unlimited (phase ∷ next ∷ later) = not (is_unlimited phase.span) && ends_unlimited (next ∷ later)

abbrev pub is_evergreen : PhaseType → Bool
is_evergreen Trial = false
is_evergreen Discount = false
is_evergreen FixedTerm = false
is_evergreen Evergreen = true

-- a phase of this kind may be the last one
abbrev pub may_end : PhaseType → Bool
may_end Trial = false
may_end Discount = false
may_end FixedTerm = true
may_end Evergreen = true

-- no evergreen phase but the last one, which is no trial and no discount
abbrev pub kinds_fit : List Phase → Bool
kinds_fit [] = true
kinds_fit (phase ∷ []) = may_end phase.kind
kinds_fit (phase ∷ next ∷ later) = not (is_evergreen phase.kind) && kinds_fit (next ∷ later)

abbrev pub is_no_period : Period → Bool
is_no_period Daily = false
is_no_period Weekly = false
is_no_period Biweekly = false
is_no_period ThirtyDays = false
is_no_period Monthly = false
is_no_period Quarterly = false
is_no_period Biannual = false
is_no_period Annual = false
is_no_period Biennial = false
is_no_period NoBillingPeriod = true

-- a phase has a recurring price and no billing period, or a billing period and no recurring price
abbrev pub bills_wrongly : Phase → Bool
bills_wrongly phase =
    (is_no_period phase.period && not (is_empty phase.recurring))
    || (not (is_no_period phase.period) && is_empty phase.recurring)

-- the price in a currency, where there is one
abbrev pub price_in : List ℕ → List Price → Option ℕ
price_in currency prices = option_map (λ (price : Price). price.amount)
    (find (λ (price : Price). bytes_eq currency price.currency) prices)

-- some prices name a currency twice
abbrev pub has_repeat : List Price → Bool
has_repeat [] = false
has_repeat (price ∷ later) = list_any (λ (other : Price). bytes_eq price.currency other.currency) later
    || has_repeat later

-- some prices name a currency that isn't among these, or one twice
abbrev pub prices_wrongly : List (List ℕ) → List Price → Bool
prices_wrongly currencies prices =
    list_any (λ (price : Price). not (list_any (bytes_eq price.currency) currencies)) prices
    || has_repeat prices

-- a phase has such prices
abbrev pub phase_prices_wrongly : List (List ℕ) → Phase → Bool
phase_prices_wrongly currencies phase = prices_wrongly currencies phase.fixed
    || prices_wrongly currencies phase.recurring

-- the billing period of some phases: that of the last one
abbrev pub last_period : List Phase → Period
last_period [] = NoBillingPeriod
last_period (phase ∷ []) = phase.period
last_period (phase ∷ next ∷ later) = last_period (next ∷ later)

-- a plan's billing period
abbrev pub plan_period : Plan → Period
plan_period plan = last_period plan.phases

-- a plan has this product and billing period, and is among these names
abbrev pub is_asked : List ℕ → Period → List (List ℕ) → Plan → Bool
is_asked product period names plan =
    bytes_eq product plan.product && same_period period (plan_period plan) && has_name names plan.name

-- two plans agree in product and billing period
abbrev pub agree : Plan → Plan → Bool
agree plan other = bytes_eq plan.product other.product && same_period (plan_period plan) (plan_period other)
