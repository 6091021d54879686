-- What is known of an invoice whose automatic payment is due.
use Rattle.std.proofs.Common.{◌≡◌, ℕ, suc, ◌-◌, ◌≤◌, Bool, true, false, not, Some}
use Rattle.std.proofs.Common.{option_map, pos, int_lt, refl, subst, arith}
use Rattle.std.proofs.lemmas.Bool.{and_parts}
use Rattle.kb_credit.specs.declared.row.Row.{Row}
use Rattle.kb_credit.specs.InvoiceRows.{InvoicesValue, numbered, balance_of, is_unpaid, unpaid_numbers}
use Rattle.kb_payment.specs.PaymentSums.{PaymentsValue, open_purchases}
use Rattle.kb_book.specs.Inner.{may_be_paid, invoice_due}
use Rattle.kb_book.specs.PaymentRows.{balance_at}
use Rattle.kb_edits.proofs.UnpaidNumbers.{IsUnpaidAt, find-passes, found-unpaid}

-- it is there, and unpaid
due-row : (payments : PaymentsValue) (invoices : InvoicesValue) (today invoice : ℕ)
    → invoice_due true payments invoices today ≡ Some invoice
    → (row : Row) × (numbered invoice invoices.rows ≡ Some row) × (is_unpaid row ≡ true)
due-row payments invoices today invoice due =
    let found : (1 ≤ invoice) × IsUnpaidAt invoices.rows (invoice - 1) =
    found-unpaid (may_be_paid payments today) 1 invoice invoices.rows due in
    let low : 1 ≤ invoice = found.0 in
    let number : suc (invoice - 1) ≡ invoice = omega arith in
    let there : numbered invoice invoices.rows ≡ Some found.1.row =
    subst (λ (number : ℕ). numbered number invoices.rows ≡ Some found.1.row) number found.1.there in
    (found.1.row, there, found.1.unpaid)

-- its balance is told
pub due_balance : (payments : PaymentsValue) (invoices : InvoicesValue) (today invoice : ℕ)
    → invoice_due true payments invoices today ≡ Some invoice
    → option_map balance_of (numbered invoice invoices.rows) ≡ Some (balance_at invoices invoice)
due_balance payments invoices today invoice due =
    let row = due-row payments invoices today invoice due in
    rw row.1 refl

-- its balance is above 0
pub due_unpaid : (payments : PaymentsValue) (invoices : InvoicesValue) (today invoice : ℕ)
    → invoice_due true payments invoices today ≡ Some invoice
    → int_lt (pos 0) (balance_at invoices invoice) ≡ true
due_unpaid payments invoices today invoice due =
    let row = due-row payments invoices today invoice due in
    rw row.1 row.2

-- the other side of a test that doesn't hold
not-true : (test : Bool) → not test ≡ true → test ≡ false
not-true true is = absurd (cc)
not-true false is = refl

-- no purchase on it is open
pub due_idle : (payments : PaymentsValue) (invoices : InvoicesValue) (today invoice : ℕ)
    → invoice_due true payments invoices today ≡ Some invoice
    → int_lt (pos 0) (open_purchases payments invoice) ≡ false
due_idle payments invoices today invoice due =
    let passes : may_be_paid payments today invoice ≡ true = find-passes (may_be_paid payments today)
    (unpaid_numbers 1 invoices.rows) invoice due in
    not-true _ (and_parts _ _ passes).0

pub ruleset due_invoices = (due_balance, due_unpaid, due_idle)
