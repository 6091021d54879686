-- The price lists of a version, and the plans that they name.
use Rattle.std.specs.Prelude.{ℕ, Bool, false, not, ◌&&◌, ◌||◌, bytes_eq, List, [], ◌∷◌, codes}
use Rattle.std.specs.List.{list_any}
use Rattle.kb_catalog.specs.declared.plan.Plan.{Plan}
use Rattle.kb_catalog.specs.declared.price_list.PriceList.{PriceList}
use Rattle.kb_catalog.specs.Products.{has_name}
use Rattle.kb_catalog.specs.Plans.{agree}
use Rattle.kb_catalog.specs.declared.version.Version.{Version}

-- a plan of this name is there
abbrev pub has_plan : Version → List ℕ → Bool
has_plan version name = list_any (λ (plan : Plan). bytes_eq name plan.name) version.plans

-- a plan agrees with one of some names
abbrev pub agrees_with_one : Version → Plan → List (List ℕ) → Bool
agrees_with_one version plan names = list_any (λ (other : Plan). agree plan other
    && has_name names other.name) version.plans

-- two of the plans that are named agree
abbrev pub has_agreeing : Version → List (List ℕ) → Bool
has_agreeing version [] = false
has_agreeing version (name ∷ later) =
    list_any (λ (plan : Plan). bytes_eq name plan.name && agrees_with_one version plan later) version.plans
    || has_agreeing version later

-- a price list names a plan that isn't there, or two that agree
abbrev pub sells_wrongly : Version → PriceList → Bool
sells_wrongly version list = list_any (λ name. not (has_plan version name)) list.plans
    || has_agreeing version list.plans

-- a price list of this name is there
abbrev pub has_list : Version → List ℕ → Bool
has_list version name = list_any (λ (list : PriceList). bytes_eq name list.name) version.lists

-- the name of the list that each version has
abbrev pub default_list : List ℕ
default_list = codes "DEFAULT"
