use Rattle.std.proofs.Common.{refl}
use Rattle.kb_catalog_text.specs.CatalogEntries.{length_in}
use Rattle.kb_catalog_text.proofs.Told.{told}
use Rattle.kb_catalog_text.proofs.phase.read_length.Goals as goal

pub returns-then-not-is_counted : goal.returns-then-not-is_counted
unfolding length_in
returns-then-not-is_counted c = rw (← c.is_counted.ensures, c.if-not-is_counted.true) refl

pub returns-in_err-count : goal.returns-in_err-count
unfolding length_in
returns-in_err-count c =
    told _ _ _ c.from_residual.ensures (λ kept. rw (
      ← c.is_counted.ensures,
      c.if-not-is_counted.false,
      c.in_err-count.ensures kept,
    ) refl)

pub returns : goal.returns
unfolding length_in
returns c = rw (← c.is_counted.ensures, c.if-not-is_counted.false, c.in_ok-count.ensures, c.span_of.ensures)
    refl
