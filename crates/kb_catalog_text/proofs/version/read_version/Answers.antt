use Rattle.std.proofs.Common.{refl}
use Rattle.kb_catalog_text.specs.CatalogText.{version_in}
use Rattle.kb_catalog_text.proofs.Told.{told}
use Rattle.kb_catalog_text.proofs.version.read_version.Goals as goal

pub returns-in_err-known_keys : goal.returns-in_err-known_keys
unfolding version_in
returns-in_err-known_keys c = told _ _ _ c.from_residual.ensures
    (λ kept. rw (c.in_err-known_keys.ensures kept) refl)

pub returns-in_err-_format : goal.returns-in_err-_format
unfolding version_in
returns-in_err-_format c = told _ _ _ c.from_residual-in_err-_format.ensures
    (λ kept. rw (c.in_ok-known_keys.ensures, c.in_err-_format.ensures kept) refl)

pub returns-in_err-effective : goal.returns-in_err-effective
unfolding version_in
returns-in_err-effective c = told _ _ _ c.from_residual-in_err-effective.ensures
    (λ kept. rw (c.in_ok-known_keys.ensures, c.in_ok-_format.ensures, c.in_err-effective.ensures kept) refl)

pub returns-in_err-currencies : goal.returns-in_err-currencies
unfolding version_in
returns-in_err-currencies c = told _ _ _ c.from_residual-in_err-currencies.ensures
    (λ kept. rw (
      c.in_ok-known_keys.ensures,
      c.in_ok-_format.ensures,
      c.in_ok-effective.ensures,
      c.in_err-currencies.ensures kept,
    ) refl)

pub returns-in_err-products : goal.returns-in_err-products
unfolding version_in
returns-in_err-products c = told _ _ _ c.from_residual-in_err-products.ensures
    (λ kept. rw (
      c.in_ok-known_keys.ensures,
      c.in_ok-_format.ensures,
      c.in_ok-effective.ensures,
      c.in_ok-currencies.ensures,
      c.in_err-products.ensures kept,
    ) refl)

pub returns-in_err-plans : goal.returns-in_err-plans
unfolding version_in
returns-in_err-plans c = told _ _ _ c.from_residual-in_err-plans.ensures
    (λ kept. rw (
      c.in_ok-known_keys.ensures,
      c.in_ok-_format.ensures,
      c.in_ok-effective.ensures,
      c.in_ok-currencies.ensures,
      c.in_ok-products.ensures,
      c.in_err-plans.ensures kept,
    ) refl)

pub returns-in_err-lists : goal.returns-in_err-lists
unfolding version_in
returns-in_err-lists c = told _ _ _ c.from_residual-in_err-lists.ensures
    (λ kept. rw (
      c.in_ok-known_keys.ensures,
      c.in_ok-_format.ensures,
      c.in_ok-effective.ensures,
      c.in_ok-currencies.ensures,
      c.in_ok-products.ensures,
      c.in_ok-plans.ensures,
      c.in_err-lists.ensures kept,
    ) refl)

pub returns-in_err-rules : goal.returns-in_err-rules
unfolding version_in
returns-in_err-rules c = told _ _ _ c.from_residual-in_err-rules.ensures
    (λ kept. rw (
      c.in_ok-known_keys.ensures,
      c.in_ok-_format.ensures,
      c.in_ok-effective.ensures,
      c.in_ok-currencies.ensures,
      c.in_ok-products.ensures,
      c.in_ok-plans.ensures,
      c.in_ok-lists.ensures,
      c.in_err-rules.ensures kept,
    ) refl)

pub returns : goal.returns
unfolding version_in
returns c = rw (
  c.in_ok-known_keys.ensures,
  c.in_ok-_format.ensures,
  c.in_ok-effective.ensures,
  c.in_ok-currencies.ensures,
  c.in_ok-products.ensures,
  c.in_ok-plans.ensures,
  c.in_ok-lists.ensures,
  c.in_ok-rules.ensures,
) refl
