-- The product among those that are left is the product among all.
use Rattle.std.proofs.Common.{◌≡◌, drop, find, bytes_eq}
use Rattle.kb_catalog.specs.declared.product.Product.{Product}
use Rattle.kb_catalog.proofs.version.product_named.Given as goal

abbrev pub invariant-loop-product : goal.invariant-loop-product
invariant-loop-product l =
    find (λ (product : Product). bytes_eq l.name product.name) (drop l.product-index l.products)
    ≡ find (λ (product : Product). bytes_eq l.name product.name) l.products
