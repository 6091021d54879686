use Rattle.std.proofs.Common.{sym}
use Rattle.kb_catalog_text.proofs.ReadSteps.{optional-found, optional-fault}
use Rattle.kb_catalog_text.proofs.Told.{told}
use Rattle.kb_catalog_text.proofs.from_value.optional.Goals as goal

pub returns-in_err-read-in-Some : goal.returns-in_err-read-in-Some
returns-in_err-read-in-Some g c =
    let there = sym (rw c.in-Some.is at c.value_at.ensures) in
    told _ _ _ c.from_residual.ensures (λ kept. optional-fault _ _ _ _ _ there
    (c.in_err-read-in-Some.ensures kept))

pub returns-in_ok-read-in-Some : goal.returns-in_ok-read-in-Some
returns-in_ok-read-in-Some g c =
    let there = sym (rw c.in-Some.is at c.value_at.ensures) in
    optional-found _ _ _ _ _ there c.in_ok-read-in-Some.ensures
