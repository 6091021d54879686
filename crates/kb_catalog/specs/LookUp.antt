-- What billing asks of a version: which plan a list sells for a product and a billing period.
use Rattle.std.specs.Prelude.{ℕ, Bool, true, false, bytes_eq, List, [], ◌∷◌, Option, Some, None}
use Rattle.std.specs.List.{position_from}
use Rattle.kb_days.specs.declared.period.Period.{Period}
use Rattle.kb_catalog.specs.declared.price_list.PriceList.{PriceList}
use Rattle.kb_catalog.specs.Plans.{is_asked}
use Rattle.kb_catalog.specs.declared.version.Version.{Version}

-- the names that the list of a name sells
abbrev pub names_sold : List PriceList → List ℕ → List (List ℕ)
names_sold [] name = []
names_sold (list ∷ later) name = of_test (bytes_eq name list.name) list.plans (names_sold later name)
  where
    of_test : Bool → List (List ℕ) → List (List ℕ) → List (List ℕ)
    of_test true here after = here
    of_test false here after = after

-- both places, where both are there
abbrev pub both_places : Option ℕ → Option ℕ → Option (ℕ × ℕ)
both_places None plan = None
both_places (Some list) None = None
both_places (Some list) (Some plan) = Some (list, plan)

-- the places of a list and of a plan that it sells for a product and a billing period, where there is one; no
-- other list is looked in
abbrev pub plan_at : Version → List ℕ → Period → List ℕ → Option (ℕ × ℕ)
plan_at version product period list =
    both_places (position_from (λ (other : PriceList). bytes_eq list other.name) 0 version.lists)
    (position_from (is_asked product period (names_sold version.lists list)) 0 version.plans)
