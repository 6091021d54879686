-- Plans without a price in a currency.
use Rattle.std.specs.Prelude.{ℕ, ◌≡◌, Bool, true, false, not, ◌&&◌, ◌||◌, List, [], ◌∷◌, codes, Option, Some}
use Rattle.std.specs.Prelude.{None, is_some, refl}
use Rattle.std.specs.List.{list_any}
use Rattle.kb_catalog.specs.declared.version.Version.{Version}
use Rattle.kb_catalog.specs.declared.plan.Plan.{Plan}
use Rattle.kb_catalog.specs.declared.phase.Phase.{Phase}
use Rattle.kb_catalog.specs.declared.phase.Price.{Price}
use Rattle.kb_catalog.specs.Products.{is_empty}
use Rattle.kb_catalog.specs.Plans.{price_in}
use Rattle.kb_timeline.specs.declared.entry.PlanRef.{PlanRef}
use Rattle.kb_due.specs.Governing.{Choice, choice_of}

-- prices are told, but not in a currency
abbrev pub lacks : List ℕ → List Price → Bool
lacks currency prices = not (is_empty prices) && not (is_some (price_in currency prices))

no_euros : lacks (codes "EUR") (record { currency = codes "USD"; amount = 1000 } ∷ []) ≡ true
no_euros = refl

without_a_price : lacks (codes "EUR") [] ≡ false
without_a_price = refl

-- the same of the prices of a phase
abbrev pub phase_lacks : List ℕ → Phase → Bool
phase_lacks currency phase = lacks currency phase.fixed || lacks currency phase.recurring

-- a price of a plan isn't told in a currency
abbrev pub lacks_price : List ℕ → Plan → Bool
lacks_price currency plan = list_any (phase_lacks currency) plan.phases

-- the same of a plan that is referred to
abbrev pub refers_to_lacking : List Version → List ℕ → Option PlanRef → Bool
refers_to_lacking versions currency None = false
refers_to_lacking versions currency (Some plan) = of_choice (choice_of versions plan)
  where
    of_choice : Option Choice → Bool
    of_choice None = false
    of_choice (Some choice) = lacks_price currency choice.plan
