use Rattle.std.proofs.Common.{refl}
use Rattle.kb_catalog_text.specs.CatalogEntries.{list_in}
use Rattle.kb_catalog_text.proofs.Told.{told}
use Rattle.kb_catalog_text.proofs.list.read_list.Goals as goal

pub returns-in_err-known_keys : goal.returns-in_err-known_keys
unfolding list_in
returns-in_err-known_keys c = told _ _ _ c.from_residual.ensures
    (λ kept. rw (c.in_err-known_keys.ensures kept) refl)

pub returns-in_err-name : goal.returns-in_err-name
unfolding list_in
returns-in_err-name c = told _ _ _ c.from_residual-in_err-name.ensures
    (λ kept. rw (c.in_ok-known_keys.ensures, c.in_err-name.ensures kept) refl)

pub returns-in_err-plans : goal.returns-in_err-plans
unfolding list_in
returns-in_err-plans c = told _ _ _ c.from_residual-in_err-plans.ensures
    (λ kept. rw (c.in_ok-known_keys.ensures, c.in_ok-name.ensures, c.in_err-plans.ensures kept) refl)

pub returns : goal.returns
unfolding list_in
returns c = rw (c.in_ok-known_keys.ensures, c.in_ok-name.ensures, c.in_ok-plans.ensures) refl
