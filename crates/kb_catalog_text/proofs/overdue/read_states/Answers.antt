use Rattle.std.proofs.Common.{refl}
use Rattle.kb_catalog_text.specs.OverdueText.{states_in}
use Rattle.kb_catalog_text.proofs.Told.{told}
use Rattle.kb_catalog_text.proofs.overdue.read_states.Goals as goal

pub returns-in_err-known_keys : goal.returns-in_err-known_keys
unfolding states_in
returns-in_err-known_keys c = told _ _ _ c.from_residual.ensures
    (λ kept. rw (c.in_err-known_keys.ensures kept) refl)

pub returns : goal.returns
unfolding states_in
returns c = rw c.in_ok-known_keys.ensures c.entries_or_empty.ensures
