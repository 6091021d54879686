-- Products, and the names among others.
use Rattle.std.specs.Prelude.{ℕ, Bool, true, false, bytes_eq, List, [], ◌∷◌, ◌++◌}
use Rattle.std.specs.List.{list_any}
use Rattle.kb_catalog.specs.declared.product.Product.{Product}
use Rattle.kb_catalog.specs.declared.words.Category.{Category}
use Rattle.kb_catalog.specs.declared.words.Category.TheVariants.{Base, AddOn, Standalone}

-- a list without a member
abbrev pub is_empty : {A : Type 0} → List A → Bool
is_empty [] = true
is_empty (member ∷ later) = false

-- a name is among some names
abbrev pub has_name : List (List ℕ) → List ℕ → Bool
has_name names name = list_any (bytes_eq name) names

abbrev pub is_base : Category → Bool
is_base Base = true
is_base AddOn = false
is_base Standalone = false

abbrev pub is_add_on : Category → Bool
is_add_on Base = false
is_add_on AddOn = true
is_add_on Standalone = false

-- the add-ons that a product lists, available and included ones
abbrev pub listed : Product → List (List ℕ)
listed product = product.available ++ product.included

-- a name is both available and included in a product
abbrev pub lists_twice : Product → Bool
lists_twice product = list_any (has_name product.included) product.available
