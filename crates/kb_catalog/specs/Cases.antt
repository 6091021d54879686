-- The cases of rules: what each asks, and whether that holds.
use Rattle.std.specs.Prelude.{◌≡◌, Bool, true, false, ◌&&◌, bytes_eq, List, [], ◌∷◌, find, is_none, Option}
use Rattle.std.specs.Prelude.{Some, None, option_map}
use Rattle.kb_catalog.specs.declared.rules.Rules.{Rules}
use Rattle.kb_catalog.specs.declared.rules.PlanCondition.{PlanCondition}
use Rattle.kb_catalog.specs.declared.rules.ChangeCase.{ChangeCase}
use Rattle.kb_catalog.specs.declared.rules.PlanCase.{PlanCase}
use Rattle.kb_catalog.specs.declared.rules.CreateCase.{CreateCase}
use Rattle.kb_catalog.specs.declared.ask.PlanAsk.{PlanAsk}
use Rattle.kb_catalog.specs.declared.ask.ChangeAsk.{ChangeAsk}
use Rattle.kb_catalog.specs.declared.words.PhaseType.{PhaseType}
use Rattle.kb_catalog.specs.Words.{same_category, same_phase, same_period}

-- what a case asks, whatever it gives: of the plan that governs or is looked at, of the kind of its phase,
-- and, where a change is decided, of the plan asked for
pub record Asks : Type 0 where
  pub from : PlanCondition
  pub phase : Option PhaseType
  pub to : Option PlanCondition

-- what each kind of case asks
abbrev pub asks_of_change : {T : Type 0} → ChangeCase T → Asks
asks_of_change case = record { from = case.from; phase = case.phase; to = Some case.to }

abbrev pub asks_of_plan : {T : Type 0} → PlanCase T → Asks
asks_of_plan case = record { from = case.plan; phase = case.phase; to = None }

abbrev pub asks_of_create : CreateCase → Asks
asks_of_create case = record { from = case.plan; phase = None; to = None }

-- a plan condition asks nothing
abbrev pub asks_nothing : PlanCondition → Bool
asks_nothing condition = is_none condition.product && is_none condition.category && is_none condition.period
    && is_none condition.list

-- nothing is asked of the plan asked for
abbrev pub asks_nothing_to : Option PlanCondition → Bool
asks_nothing_to None = true
asks_nothing_to (Some condition) = asks_nothing condition

-- a case has no condition
abbrev pub is_open : Asks → Bool
is_open asks = asks_nothing asks.from && is_none asks.phase && asks_nothing_to asks.to

-- there is a case, and the last one has no condition
abbrev pub ends_open : {A : Type 0} → (A → Asks) → List A → Bool
ends_open asks [] = false
ends_open asks (case ∷ []) = is_open (asks case)
ends_open asks (case ∷ next ∷ later) = ends_open asks (next ∷ later)

-- each rule list has a case, and its last one has no condition
abbrev pub EndOpen : Rules → Type 0
EndOpen rules =
    (ends_open asks_of_change rules.change_policy ≡ true)
    × (ends_open asks_of_change rules.change_alignment ≡ true)
    × (ends_open asks_of_plan rules.cancel_policy ≡ true)
    × (ends_open asks_of_create rules.create_alignment ≡ true)
    × (ends_open asks_of_plan rules.billing_alignment ≡ true)

-- a condition on a value holds: it isn't stated, or the value is there and the same
abbrev pub holds : {A : Type 0} → (A → A → Bool) → Option A → Option A → Bool
holds same None value = true
holds same (Some asked) None = false
holds same (Some asked) (Some value) = same asked value

-- the conditions on a plan hold
abbrev pub holds_of : PlanCondition → PlanAsk → Bool
holds_of condition ask =
    holds bytes_eq condition.product (Some ask.product) && holds same_category condition.category ask.category
    && holds same_period condition.period (Some ask.period) && holds bytes_eq condition.list (Some ask.list)

-- the conditions on the plan asked for hold
abbrev pub holds_to : Option PlanCondition → PlanAsk → Bool
holds_to None ask = true
holds_to (Some condition) ask = holds_of condition ask

-- all conditions of a case hold, of the plan that governs or is looked at and of the plan asked for
abbrev pub fits : PlanAsk → PlanAsk → Asks → Bool
fits from to asks = holds_of asks.from from && holds same_phase asks.phase from.phase && holds_to asks.to to

-- a case of each kind fits what it is asked about; where no change is decided, no condition looks at a plan
-- asked for
abbrev pub fits_change : {T : Type 0} → ChangeAsk → ChangeCase T → Bool
fits_change change = λ case. fits change.from change.to (asks_of_change case)

abbrev pub fits_plan : {T : Type 0} → PlanAsk → PlanCase T → Bool
fits_plan now = λ case. fits now now (asks_of_plan case)

abbrev pub fits_create : PlanAsk → CreateCase → Bool
fits_create now = λ case. fits now now (asks_of_create case)

-- what the first case gives whose conditions all hold
abbrev pub first_match : {A B : Type 0} → (A → Bool) → (A → B) → List A → Option B
first_match fits gives cases = option_map gives (find fits cases)
