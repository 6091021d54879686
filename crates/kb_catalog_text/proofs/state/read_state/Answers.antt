use Rattle.std.proofs.Common.{refl}
use Rattle.kb_catalog_text.specs.StateEntries.{state_in}
use Rattle.kb_catalog_text.proofs.Told.{told}
use Rattle.kb_catalog_text.proofs.state.read_state.Goals as goal

pub returns-in_err-known_keys : goal.returns-in_err-known_keys
unfolding state_in
returns-in_err-known_keys c = told _ _ _ c.from_residual.ensures
    (λ kept. rw (c.in_err-known_keys.ensures kept) refl)

pub returns-in_err-name : goal.returns-in_err-name
unfolding state_in
returns-in_err-name c = told _ _ _ c.from_residual-in_err-name.ensures
    (λ kept. rw (c.in_ok-known_keys.ensures, c.in_err-name.ensures kept) refl)

pub returns-in_err-days : goal.returns-in_err-days
unfolding state_in
returns-in_err-days c = told _ _ _ c.from_residual-in_err-days.ensures
    (λ kept. rw (c.in_ok-known_keys.ensures, c.in_ok-name.ensures, c.in_err-days.ensures kept) refl)

pub returns-in_err-count : goal.returns-in_err-count
unfolding state_in
returns-in_err-count c = told _ _ _ c.from_residual-in_err-count.ensures
    (λ kept. rw (
      c.in_ok-known_keys.ensures,
      c.in_ok-name.ensures,
      c.in_ok-days.ensures,
      c.in_err-count.ensures kept,
    ) refl)

pub returns-in_err-total : goal.returns-in_err-total
unfolding state_in
returns-in_err-total c = told _ _ _ c.from_residual-in_err-total.ensures
    (λ kept. rw (
      c.in_ok-known_keys.ensures,
      c.in_ok-name.ensures,
      c.in_ok-days.ensures,
      c.in_ok-count.ensures,
      c.in_err-total.ensures kept,
    ) refl)

pub returns-in_err-block_change : goal.returns-in_err-block_change
unfolding state_in
returns-in_err-block_change c = told _ _ _ c.from_residual-in_err-block_change.ensures
    (λ kept. rw (
      c.in_ok-known_keys.ensures,
      c.in_ok-name.ensures,
      c.in_ok-days.ensures,
      c.in_ok-count.ensures,
      c.in_ok-total.ensures,
      c.in_err-block_change.ensures kept,
    ) refl)

pub returns-in_err-block_entitlement : goal.returns-in_err-block_entitlement
unfolding state_in
returns-in_err-block_entitlement c = told _ _ _ c.from_residual-in_err-block_entitlement.ensures
    (λ kept. rw (
      c.in_ok-known_keys.ensures,
      c.in_ok-name.ensures,
      c.in_ok-days.ensures,
      c.in_ok-count.ensures,
      c.in_ok-total.ensures,
      c.in_ok-block_change.ensures,
      c.in_err-block_entitlement.ensures kept,
    ) refl)

pub returns-in_err-block_billing : goal.returns-in_err-block_billing
unfolding state_in
returns-in_err-block_billing c = told _ _ _ c.from_residual-in_err-block_billing.ensures
    (λ kept. rw (
      c.in_ok-known_keys.ensures,
      c.in_ok-name.ensures,
      c.in_ok-days.ensures,
      c.in_ok-count.ensures,
      c.in_ok-total.ensures,
      c.in_ok-block_change.ensures,
      c.in_ok-block_entitlement.ensures,
      c.in_err-block_billing.ensures kept,
    ) refl)

pub returns : goal.returns
unfolding state_in
returns c = rw (
  c.in_ok-known_keys.ensures,
  c.in_ok-name.ensures,
  c.in_ok-days.ensures,
  c.in_ok-count.ensures,
  c.in_ok-total.ensures,
  c.in_ok-block_change.ensures,
  c.in_ok-block_entitlement.ensures,
  c.in_ok-block_billing.ensures,
) refl
