use Rattle.std.proofs.Common.{◌≡◌, ℕ, Option, Some, None, IfSome, slice_get, option_copied, Bor, sym}
use Rattle.kb_credit.specs.declared.row.Row.{Row}
use Rattle.kb_credit.specs.InvoiceRows.{InvoicesValue}
use Rattle.kb_credit.specs.InvoiceEdits.{AreInvoices}
use Rattle.kb_credit.specs.Private.KeptSums.{IsSmall}
use Rattle.kb_credit.proofs.AdjustedPlaces.{IsSmall-row}
use Rattle.kb_credit.proofs.invoices.Invoices.row.Goals as goal

small_row : (value : InvoicesValue) (place : ℕ) (found : Option (Bor Row)) → AreInvoices value
    → option_copied found ≡ slice_get value.rows place → IfSome found (λ (row : Bor Row). IsSmall row.now)
small_row value place None are is = tt
small_row value place (Some row) are is = IsSmall-row value place row.now are (sym is)

pub returns-clause-small : goal.returns-clause-small
returns-clause-small c =
    small_row (record { rows = c.self.inside.rows; items = c.self.inside.items }) c.from.result c.get.result
    c.self.invariant.0 c.get.ensures
