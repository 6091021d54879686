use Rattle.std.proofs.Common.{refl}
use Rattle.kb_catalog_text.specs.CatalogEntries.{span_in}
use Rattle.kb_catalog_text.proofs.Told.{told}
use Rattle.kb_catalog_text.proofs.phase.read_span.Goals as goal

pub returns-in_err-unit : goal.returns-in_err-unit
unfolding span_in
returns-in_err-unit c = told _ _ _ c.from_residual.ensures (λ kept. rw (c.in_err-unit.ensures kept) refl)

pub returns : goal.returns
unfolding span_in
returns c = rw c.in_ok-unit.ensures c.read_length.ensures
