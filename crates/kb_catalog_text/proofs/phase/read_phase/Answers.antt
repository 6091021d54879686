use Rattle.std.proofs.Common.{refl}
use Rattle.kb_catalog_text.specs.CatalogEntries.{phase_in}
use Rattle.kb_catalog_text.proofs.Told.{told}
use Rattle.kb_catalog_text.proofs.phase.read_phase.Goals as goal

pub returns-in_err-known_phase_keys : goal.returns-in_err-known_phase_keys
unfolding phase_in
returns-in_err-known_phase_keys c = told _ _ _ c.from_residual.ensures
    (λ kept. rw (c.in_err-known_phase_keys.ensures kept) refl)

pub returns-in_err-kind : goal.returns-in_err-kind
unfolding phase_in
returns-in_err-kind c = told _ _ _ c.from_residual-in_err-kind.ensures
    (λ kept. rw (c.in_ok-known_phase_keys.ensures, c.in_err-kind.ensures kept) refl)

pub returns-in_err-span : goal.returns-in_err-span
unfolding phase_in
returns-in_err-span c = told _ _ _ c.from_residual-in_err-span.ensures
    (λ kept. rw (c.in_ok-known_phase_keys.ensures, c.in_ok-kind.ensures, c.in_err-span.ensures kept) refl)

pub returns-in_err-fixed : goal.returns-in_err-fixed
unfolding phase_in
returns-in_err-fixed c = told _ _ _ c.from_residual-in_err-fixed.ensures
    (λ kept. rw (
      c.in_ok-known_phase_keys.ensures,
      c.in_ok-kind.ensures,
      c.in_ok-span.ensures,
      c.in_err-fixed.ensures kept,
    ) refl)

pub returns-in_err-period : goal.returns-in_err-period
unfolding phase_in
returns-in_err-period c = told _ _ _ c.from_residual-in_err-period.ensures
    (λ kept. rw (
      c.in_ok-known_phase_keys.ensures,
      c.in_ok-kind.ensures,
      c.in_ok-span.ensures,
      c.in_ok-fixed.ensures,
      c.in_err-period.ensures kept,
    ) refl)

pub returns-in_err-recurring : goal.returns-in_err-recurring
unfolding phase_in
returns-in_err-recurring c = told _ _ _ c.from_residual-in_err-recurring.ensures
    (λ kept. rw (
      c.in_ok-known_phase_keys.ensures,
      c.in_ok-kind.ensures,
      c.in_ok-span.ensures,
      c.in_ok-fixed.ensures,
      c.in_ok-period.ensures,
      c.in_err-recurring.ensures kept,
    ) refl)

pub returns : goal.returns
unfolding phase_in
returns c = rw (
  c.in_ok-known_phase_keys.ensures,
  c.in_ok-kind.ensures,
  c.in_ok-span.ensures,
  c.in_ok-fixed.ensures,
  c.in_ok-period.ensures,
  c.in_ok-recurring.ensures,
) refl
