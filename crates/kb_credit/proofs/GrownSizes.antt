-- By how much an edit makes the sums grow that `AreInvoices` bounds, for a layer that keeps them small.
use Rattle.std.proofs.Common.{◌≡◌, ℕ, zero, suc, ◌+◌, ◌≤◌, List, [], ◌∷◌, ℤ, pos}
use Rattle.std.proofs.Common.{nat_abs, refl, arith}
use Rattle.kb_sharing.specs.Sums.{sum_of}
use Rattle.kb_credit.specs.Sizes.{size_of}
use Rattle.kb_credit.specs.declared.row.Row.{Row}
use Rattle.kb_credit.specs.declared.line.Line.{Line}
use Rattle.kb_credit.specs.Items.{amount_of}
use Rattle.kb_credit.specs.InvoiceRows.{InvoicesValue}
use Rattle.kb_credit.specs.InvoiceEdits.{issued, paid_at, levelled}
use Rattle.kb_credit.proofs.Integers.{nat_abs-add}
use Rattle.kb_credit.proofs.SizeLaws.{size_of-push, nat_abs-sum_of}
use Rattle.kb_credit.proofs.ClosedForm.{size_of-levelled_rows}
use Rattle.kb_credit.proofs.PaidRows.{size_of-paid_at}

-- an invoice adds no more than the size of its lines to the totals, and nothing to the payments
pub totals-issued : (invoices : InvoicesValue) (day : ℕ) (lines : List Line)
    → size_of (λ (row : Row). row.total) (issued invoices day lines).rows
    ≤ size_of (λ (row : Row). row.total) invoices.rows + size_of amount_of lines
totals-issued invoices day lines =
    let row : Row = record { day = day; total = sum_of amount_of lines; adjusted = pos 0; paid = pos 0 } in
    let more = size_of-push (λ (row : Row). row.total) invoices.rows row in
    let small = nat_abs-sum_of amount_of lines in
    omega arith

pub payments-issued : (invoices : InvoicesValue) (day : ℕ) (lines : List Line)
    → size_of (λ (row : Row). row.paid) (issued invoices day lines).rows
    ≡ size_of (λ (row : Row). row.paid) invoices.rows
payments-issued invoices day lines =
    let row : Row = record { day = day; total = sum_of amount_of lines; adjusted = pos 0; paid = pos 0 } in
    let more = size_of-push (λ (row : Row). row.paid) invoices.rows row in
    omega arith

-- a payment adds no more than its amount to the payments, and nothing to the totals
pub payments-paid_at : (place : ℕ) (amount : ℤ) (rows : List Row)
    → size_of (λ (row : Row). row.paid) (paid_at place amount rows)
    ≤ size_of (λ (row : Row). row.paid) rows + nat_abs amount
payments-paid_at place amount [] = omega arith
payments-paid_at zero amount (row ∷ rows) = let here = nat_abs-add row.paid amount in omega arith
payments-paid_at (suc place) amount (row ∷ rows) =
    let later = payments-paid_at place amount rows in omega arith

pub totals-paid_at : (place : ℕ) (amount : ℤ) (rows : List Row)
    → size_of (λ (row : Row). row.total) (paid_at place amount rows) ≡ size_of (λ (row : Row). row.total) rows
totals-paid_at place amount rows =
    size_of-paid_at (λ (row : Row). row.total) (λ row paid. refl) place amount rows

-- a levelling leaves both as they are
pub totals-levelled : (invoices : InvoicesValue)
    → size_of (λ (row : Row). row.total) (levelled invoices).rows
    ≡ size_of (λ (row : Row). row.total) invoices.rows
totals-levelled invoices = size_of-levelled_rows (λ (row : Row). row.total) (λ row amount. refl) invoices.rows

pub payments-levelled : (invoices : InvoicesValue)
    → size_of (λ (row : Row). row.paid) (levelled invoices).rows
    ≡ size_of (λ (row : Row). row.paid) invoices.rows
payments-levelled invoices =
    size_of-levelled_rows (λ (row : Row). row.paid) (λ row amount. refl) invoices.rows
