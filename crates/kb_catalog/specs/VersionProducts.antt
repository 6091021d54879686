-- The products of a version.
use Rattle.std.specs.Prelude.{ℕ, Bool, not, ◌&&◌, ◌||◌, bytes_eq, List, find, Option}
use Rattle.std.specs.List.{list_any}
use Rattle.kb_catalog.specs.declared.product.Product.{Product}
use Rattle.kb_catalog.specs.Products.{is_empty, is_base, is_add_on, listed}
use Rattle.kb_catalog.specs.declared.version.Version.{Version}

-- a product of this name is there
abbrev pub has_product : Version → List ℕ → Bool
has_product version name = list_any (λ (product : Product). bytes_eq name product.name) version.products

-- the product of a name, where it is there
abbrev pub product_named : Version → List ℕ → Option Product
product_named version name = find (λ (product : Product). bytes_eq name product.name) version.products

-- an add-on product of this name is there
abbrev pub has_add_on : Version → List ℕ → Bool
has_add_on version name = list_any (λ (product : Product). bytes_eq name product.name
    && is_add_on product.category) version.products

-- a product lists add-ons though it isn't a base product, or lists what is no add-on product
abbrev pub lists_wrongly : Version → Product → Bool
lists_wrongly version product =
    (not (is_base product.category) && not (is_empty (listed product)))
    || list_any (λ name. not (has_add_on version name)) (listed product)
