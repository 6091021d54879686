use Rattle.std.proofs.Common.{refl}
use Rattle.kb_catalog_text.specs.CatalogEntries.{change_case_in}
use Rattle.kb_catalog_text.proofs.Told.{told}
use Rattle.kb_catalog_text.proofs.cases.read_change_case.Goals as goal

pub returns-in_err-known_keys : goal.returns-in_err-known_keys
unfolding change_case_in
returns-in_err-known_keys g c = told _ _ _ c.from_residual.ensures
    (λ kept. rw (c.in_err-known_keys.ensures kept) refl)

pub returns-in_err-from : goal.returns-in_err-from
unfolding change_case_in
returns-in_err-from g c = told _ _ _ c.from_residual-in_err-from.ensures
    (λ kept. rw (c.in_ok-known_keys.ensures, c.in_err-from.ensures kept) refl)

pub returns-in_err-phase : goal.returns-in_err-phase
unfolding change_case_in
returns-in_err-phase g c = told _ _ _ c.from_residual-in_err-phase.ensures
    (λ kept. rw (c.in_ok-known_keys.ensures, c.in_ok-from.ensures, c.in_err-phase.ensures kept) refl)

pub returns-in_err-to : goal.returns-in_err-to
unfolding change_case_in
returns-in_err-to g c = told _ _ _ c.from_residual-in_err-to.ensures
    (λ kept. rw (
      c.in_ok-known_keys.ensures,
      c.in_ok-from.ensures,
      c.in_ok-phase.ensures,
      c.in_err-to.ensures kept,
    ) refl)

pub returns-in_err-answer : goal.returns-in_err-answer
unfolding change_case_in
returns-in_err-answer g c = told _ _ _ c.from_residual-in_err-answer.ensures
    (λ kept. rw (
      c.in_ok-known_keys.ensures,
      c.in_ok-from.ensures,
      c.in_ok-phase.ensures,
      c.in_ok-to.ensures,
      c.in_err-answer.ensures kept,
    ) refl)

pub returns : goal.returns
unfolding change_case_in
returns g c = rw (
  c.in_ok-known_keys.ensures,
  c.in_ok-from.ensures,
  c.in_ok-phase.ensures,
  c.in_ok-to.ensures,
  c.in_ok-answer.ensures,
) refl
