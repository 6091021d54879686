-- Noting what is paid and levelling keep how many invoices there are, and what they total.
use Rattle.std.proofs.Common.{◌≡◌, ℕ, ◌+◌, ◌≤◌, List, [], ◌∷◌, length, pos, refl, arith, length-append}
use Rattle.kb_sharing.specs.Sums.{sum_of}
use Rattle.kb_credit.specs.declared.row.Row.{Row}
use Rattle.kb_credit.specs.declared.line.Line.{Line}
use Rattle.kb_credit.specs.Items.{amount_of}
use Rattle.kb_credit.specs.Sizes.{size_of}
use Rattle.kb_credit.specs.InvoiceRows.{InvoicesValue}
use Rattle.kb_credit.specs.InvoiceEdits.{levelled}
use Rattle.kb_credit.proofs.ClosedForm.{length-levelled_rows, size_of-levelled_rows}
use Rattle.kb_payment.specs.PaymentSums.{PaymentsValue}
use Rattle.kb_book.specs.Steps.{with_invoice, with_paid}
use Rattle.kb_book.proofs.NotedRows.{length-paid_from, size_of-paid_from}
use Rattle.kb_book.proofs.BilledRows.{billed_rows}

-- what the totals of invoices weigh, each without its sign
abbrev pub totals_size : InvoicesValue → ℕ
totals_size invoices = size_of (λ (row : Row). row.total) invoices.rows

-- noting what is paid
pub length-with_paid : (payments : PaymentsValue) (invoices : InvoicesValue)
    → length (with_paid payments invoices).rows ≡ length invoices.rows
length-with_paid payments invoices = length-paid_from payments 1 invoices.rows

pub totals_size-with_paid : (payments : PaymentsValue) (invoices : InvoicesValue)
    → totals_size (with_paid payments invoices) ≡ totals_size invoices
totals_size-with_paid payments invoices =
    size_of-paid_from payments (λ (row : Row). row.total) (λ row amount. refl) 1 invoices.rows

-- levelling
pub length-levelled : (invoices : InvoicesValue) → length (levelled invoices).rows ≡ length invoices.rows
length-levelled invoices = length-levelled_rows invoices.rows

pub totals_size-levelled : (invoices : InvoicesValue) → totals_size (levelled invoices) ≡ totals_size invoices
totals_size-levelled invoices =
    size_of-levelled_rows (λ (row : Row). row.total) (λ row amount. refl) invoices.rows

-- lines make at most one invoice
with_invoice-few : (invoices : InvoicesValue) (today : ℕ) (lines : List Line)
    → (length invoices.rows ≤ length (with_invoice invoices today lines).rows)
    × (length (with_invoice invoices today lines).rows ≤ length invoices.rows + 1)
with_invoice-few invoices today [] = (omega arith, omega arith)
with_invoice-few invoices today (line ∷ later) =
    let row : Row = record {
      day = today;
      total = sum_of amount_of (line ∷ later);
      adjusted = pos 0;
      paid = pos 0;
    } in (
      omega (arith, length-append invoices.rows (row ∷ [])),
      omega
          (arith, length-append invoices.rows (row ∷ [])),
    )

-- so there are as many invoices as before, or one more
pub billed_rows-few : (payments : PaymentsValue) (invoices : InvoicesValue) (today : ℕ) (lines : List Line)
    → (length invoices.rows ≤ length (billed_rows payments invoices today lines).rows)
    × (length (billed_rows payments invoices today lines).rows ≤ length invoices.rows + 1)
billed_rows-few payments invoices today lines =
    let made = with_invoice invoices today lines in
    let same = length-levelled (with_paid payments made) in
    let also = length-with_paid payments made in
    let few = with_invoice-few invoices today lines in
    (omega (arith, same, also, few.0), omega (arith, same, also, few.1))
