use Rattle.std.proofs.Common.{refl}
use Rattle.kb_catalog_text.specs.CatalogEntries.{product_in}
use Rattle.kb_catalog_text.proofs.Told.{told}
use Rattle.kb_catalog_text.proofs.product.read_product.Goals as goal

pub returns-in_err-known_keys : goal.returns-in_err-known_keys
unfolding product_in
returns-in_err-known_keys c = told _ _ _ c.from_residual.ensures
    (λ kept. rw (c.in_err-known_keys.ensures kept) refl)

pub returns-in_err-name : goal.returns-in_err-name
unfolding product_in
returns-in_err-name c = told _ _ _ c.from_residual-in_err-name.ensures
    (λ kept. rw (c.in_ok-known_keys.ensures, c.in_err-name.ensures kept) refl)

pub returns-in_err-category : goal.returns-in_err-category
unfolding product_in
returns-in_err-category c = told _ _ _ c.from_residual-in_err-category.ensures
    (λ kept. rw (c.in_ok-known_keys.ensures, c.in_ok-name.ensures, c.in_err-category.ensures kept) refl)

pub returns-in_err-available : goal.returns-in_err-available
unfolding product_in
returns-in_err-available c = told _ _ _ c.from_residual-in_err-available.ensures
    (λ kept. rw (
      c.in_ok-known_keys.ensures,
      c.in_ok-name.ensures,
      c.in_ok-category.ensures,
      c.in_err-available.ensures kept,
    ) refl)

pub returns-in_err-included : goal.returns-in_err-included
unfolding product_in
returns-in_err-included c = told _ _ _ c.from_residual-in_err-included.ensures
    (λ kept. rw (
      c.in_ok-known_keys.ensures,
      c.in_ok-name.ensures,
      c.in_ok-category.ensures,
      c.in_ok-available.ensures,
      c.in_err-included.ensures kept,
    ) refl)

pub returns : goal.returns
unfolding product_in
returns c = rw (
  c.in_ok-known_keys.ensures,
  c.in_ok-name.ensures,
  c.in_ok-category.ensures,
  c.in_ok-available.ensures,
  c.in_ok-included.ensures,
) refl
