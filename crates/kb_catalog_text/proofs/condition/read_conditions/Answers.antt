use Rattle.std.proofs.Common.{refl}
use Rattle.kb_catalog_text.specs.CatalogEntries.{condition_in}
use Rattle.kb_catalog_text.proofs.Told.{told}
use Rattle.kb_catalog_text.proofs.condition.read_conditions.Goals as goal

pub returns-in_err-product : goal.returns-in_err-product
unfolding condition_in
returns-in_err-product c = told _ _ _ c.from_residual.ensures
    (λ kept. rw (c.in_err-product.ensures kept) refl)

pub returns-in_err-category : goal.returns-in_err-category
unfolding condition_in
returns-in_err-category c = told _ _ _ c.from_residual-in_err-category.ensures
    (λ kept. rw (c.in_ok-product.ensures, c.in_err-category.ensures kept) refl)

pub returns-in_err-period : goal.returns-in_err-period
unfolding condition_in
returns-in_err-period c = told _ _ _ c.from_residual-in_err-period.ensures
    (λ kept. rw (c.in_ok-product.ensures, c.in_ok-category.ensures, c.in_err-period.ensures kept) refl)

pub returns-in_err-list : goal.returns-in_err-list
unfolding condition_in
returns-in_err-list c = told _ _ _ c.from_residual-in_err-list.ensures
    (λ kept. rw (
      c.in_ok-product.ensures,
      c.in_ok-category.ensures,
      c.in_ok-period.ensures,
      c.in_err-list.ensures kept,
    ) refl)

pub returns : goal.returns
unfolding condition_in
returns c = rw (
  c.in_ok-product.ensures,
  c.in_ok-category.ensures,
  c.in_ok-period.ensures,
  c.in_ok-list.ensures,
) refl
