use Rattle.std.proofs.Common.{refl}
use Rattle.kb_catalog_text.specs.CatalogEntries.{create_in}
use Rattle.kb_catalog_text.proofs.Told.{told}
use Rattle.kb_catalog_text.proofs.cases.read_create.Goals as goal

pub returns-in_err-known_keys : goal.returns-in_err-known_keys
unfolding create_in
returns-in_err-known_keys c = told _ _ _ c.from_residual.ensures
    (λ kept. rw (c.in_err-known_keys.ensures kept) refl)

pub returns-in_err-plan : goal.returns-in_err-plan
unfolding create_in
returns-in_err-plan c = told _ _ _ c.from_residual-in_err-plan.ensures
    (λ kept. rw (c.in_ok-known_keys.ensures, c.in_err-plan.ensures kept) refl)

pub returns-in_err-alignment : goal.returns-in_err-alignment
unfolding create_in
returns-in_err-alignment c = told _ _ _ c.from_residual-in_err-alignment.ensures
    (λ kept. rw (c.in_ok-known_keys.ensures, c.in_ok-plan.ensures, c.in_err-alignment.ensures kept) refl)

pub returns : goal.returns
unfolding create_in
returns c = rw (c.in_ok-known_keys.ensures, c.in_ok-plan.ensures, c.in_ok-alignment.ensures) refl
