-- The invoice whose automatic payment is due.
use Rattle.std.proofs.Common.{◌≡◌, ℕ, ◌≤◌, Bool, true, false, Option, Some, None, IfSome, sym}
use Rattle.kb_credit.specs.InvoiceRows.{InvoicesValue}
use Rattle.kb_payment.specs.PaymentSums.{PaymentsValue}
use Rattle.kb_book.specs.Inner.{invoice_due, may_be_paid}
use Rattle.kb_book.proofs.FreshKeys.{due_number}

-- it has a number from 1 on
pub due_first : (autopay : Bool) (payments : PaymentsValue) (invoices : InvoicesValue) (today : ℕ)
    (due : Option ℕ)
    → due ≡ invoice_due autopay payments invoices today → IfSome due (λ invoice. 1 ≤ invoice)
due_first autopay payments invoices today None is = tt
due_first false payments invoices today (Some invoice) is = absurd (cc)
due_first true payments invoices today (Some invoice) is =
    (due_number (may_be_paid payments today) 1 invoice invoices.rows (sym is)).1
