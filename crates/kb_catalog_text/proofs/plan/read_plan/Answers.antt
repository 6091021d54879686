use Rattle.std.proofs.Common.{refl}
use Rattle.kb_catalog_text.specs.CatalogEntries.{plan_in}
use Rattle.kb_catalog_text.proofs.Told.{told}
use Rattle.kb_catalog_text.proofs.plan.read_plan.Goals as goal

pub returns-in_err-known_keys : goal.returns-in_err-known_keys
unfolding plan_in
returns-in_err-known_keys c = told _ _ _ c.from_residual.ensures
    (λ kept. rw (c.in_err-known_keys.ensures kept) refl)

pub returns-in_err-name : goal.returns-in_err-name
unfolding plan_in
returns-in_err-name c = told _ _ _ c.from_residual-in_err-name.ensures
    (λ kept. rw (c.in_ok-known_keys.ensures, c.in_err-name.ensures kept) refl)

pub returns-in_err-product : goal.returns-in_err-product
unfolding plan_in
returns-in_err-product c = told _ _ _ c.from_residual-in_err-product.ensures
    (λ kept. rw (c.in_ok-known_keys.ensures, c.in_ok-name.ensures, c.in_err-product.ensures kept) refl)

pub returns-in_err-phases : goal.returns-in_err-phases
unfolding plan_in
returns-in_err-phases c = told _ _ _ c.from_residual-in_err-phases.ensures
    (λ kept. rw (
      c.in_ok-known_keys.ensures,
      c.in_ok-name.ensures,
      c.in_ok-product.ensures,
      c.in_err-phases.ensures kept,
    ) refl)

pub returns : goal.returns
unfolding plan_in
returns c = rw (
  c.in_ok-known_keys.ensures,
  c.in_ok-name.ensures,
  c.in_ok-product.ensures,
  c.in_ok-phases.ensures,
) refl
