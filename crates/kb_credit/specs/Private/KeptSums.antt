-- What is kept beside the rows.
use Rattle.std.specs.Prelude.{◌≡◌, ◌+◌, ◌*◌, ◌≤◌, List, nat_abs}
use Rattle.kb_credit.specs.declared.row.Row.{Row}
use Rattle.kb_credit.specs.declared.open_invoice.OpenInvoice.{OpenInvoice}
use Rattle.kb_credit.specs.declared.sums.Sums.{Sums}
use Rattle.kb_credit.specs.InvoiceRows.{charged, paid, credit}
use Rattle.kb_credit.specs.InvoiceEdits.{max_sum}
use Rattle.kb_credit.specs.Private.OpenInvoices.{opened}

-- the open invoices and the sums are those of the rows
pub record AreKept (rows : List Row) (invoices : List OpenInvoice) (sums : Sums) : Type 0 where
  pub opens : invoices ≡ opened 1 rows
  pub totals : sums.charged ≡ charged rows
  pub pays : sums.paid ≡ paid rows
  pub credits : sums.credit ≡ credit rows

-- the sums of a row are so small that none of what is computed of them is too large
abbrev pub IsSmall : Row → Type 0
IsSmall row = nat_abs row.total + nat_abs row.adjusted + nat_abs row.paid ≤ 6 * max_sum
