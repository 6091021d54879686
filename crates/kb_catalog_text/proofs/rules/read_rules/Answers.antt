use Rattle.std.proofs.Common.{refl}
use Rattle.kb_catalog_text.specs.CatalogEntries.{rules_in}
use Rattle.kb_catalog_text.proofs.Told.{told}
use Rattle.kb_catalog_text.proofs.rules.read_rules.Goals as goal

pub returns-in_err-known_keys : goal.returns-in_err-known_keys
unfolding rules_in
returns-in_err-known_keys c = told _ _ _ c.from_residual.ensures
    (λ kept. rw (c.in_err-known_keys.ensures kept) refl)

pub returns-in_err-change_policy : goal.returns-in_err-change_policy
unfolding rules_in
returns-in_err-change_policy c = told _ _ _ c.from_residual-in_err-change_policy.ensures
    (λ kept. rw (c.in_ok-known_keys.ensures, c.in_err-change_policy.ensures kept) refl)

pub returns-in_err-change_alignment : goal.returns-in_err-change_alignment
unfolding rules_in
returns-in_err-change_alignment c = told _ _ _ c.from_residual-in_err-change_alignment.ensures
    (λ kept. rw (
      c.in_ok-known_keys.ensures,
      c.in_ok-change_policy.ensures,
      c.in_err-change_alignment.ensures kept,
    ) refl)

pub returns-in_err-cancel_policy : goal.returns-in_err-cancel_policy
unfolding rules_in
returns-in_err-cancel_policy c = told _ _ _ c.from_residual-in_err-cancel_policy.ensures
    (λ kept. rw (
      c.in_ok-known_keys.ensures,
      c.in_ok-change_policy.ensures,
      c.in_ok-change_alignment.ensures,
      c.in_err-cancel_policy.ensures kept,
    ) refl)

pub returns-in_err-create_alignment : goal.returns-in_err-create_alignment
unfolding rules_in
returns-in_err-create_alignment c = told _ _ _ c.from_residual-in_err-create_alignment.ensures
    (λ kept. rw (
      c.in_ok-known_keys.ensures,
      c.in_ok-change_policy.ensures,
      c.in_ok-change_alignment.ensures,
      c.in_ok-cancel_policy.ensures,
      c.in_err-create_alignment.ensures kept,
    ) refl)

pub returns-in_err-billing_alignment : goal.returns-in_err-billing_alignment
unfolding rules_in
returns-in_err-billing_alignment c = told _ _ _ c.from_residual-in_err-billing_alignment.ensures
    (λ kept. rw (
      c.in_ok-known_keys.ensures,
      c.in_ok-change_policy.ensures,
      c.in_ok-change_alignment.ensures,
      c.in_ok-cancel_policy.ensures,
      c.in_ok-create_alignment.ensures,
      c.in_err-billing_alignment.ensures kept,
    ) refl)

pub returns : goal.returns
unfolding rules_in
returns c = rw (
  c.in_ok-known_keys.ensures,
  c.in_ok-change_policy.ensures,
  c.in_ok-change_alignment.ensures,
  c.in_ok-cancel_policy.ensures,
  c.in_ok-create_alignment.ensures,
  c.in_ok-billing_alignment.ensures,
) refl
