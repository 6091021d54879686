use Rattle.std.proofs.Common.{refl}
use Rattle.kb_catalog_text.specs.CatalogEntries.{prices_in}
use Rattle.kb_catalog_text.proofs.Told.{told}
use Rattle.kb_catalog_text.proofs.prices.read_prices.Goals as goal

pub returns-in_err-known_keys : goal.returns-in_err-known_keys
unfolding prices_in
returns-in_err-known_keys c = told _ _ _ c.from_residual.ensures
    (λ kept. rw (c.in_err-known_keys.ensures kept) refl)

pub returns-in_err-prices : goal.returns-in_err-prices
unfolding prices_in
returns-in_err-prices c = told _ _ _ c.from_residual-in_err-prices.ensures
    (λ kept. rw (c.in_ok-known_keys.ensures, c.in_err-prices.ensures kept) refl)

pub returns : goal.returns
unfolding prices_in
returns c = rw (c.in_ok-known_keys.ensures, c.in_ok-prices.ensures) refl
