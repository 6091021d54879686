-- No sum that an edit makes is too large.
use Rattle.std.proofs.Common.{◌≡◌, ℕ, ◌+◌, ◌^◌, ◌≤◌, List, ℤ, ◌+ℤ◌, nat_abs, slice_get, Some}
use Rattle.std.proofs.Common.{ap, ◌∙◌, sym, arith}
use Rattle.kb_sharing.specs.Sums.{sum_of}
use Rattle.kb_credit.specs.Sizes.{size_of}
use Rattle.kb_credit.specs.declared.row.Row.{Row}
use Rattle.kb_credit.specs.declared.line.Line.{Line}
use Rattle.kb_credit.specs.declared.sums.Sums.{Sums}
use Rattle.kb_credit.specs.declared.open_invoice.OpenInvoice.{OpenInvoice}
use Rattle.kb_credit.specs.Items.{amount_of}
use Rattle.kb_credit.specs.InvoiceRows.{InvoicesValue, charged, paid}
use Rattle.kb_credit.specs.InvoiceEdits.{max_sum, AreInvoices, paid_at}
use Rattle.kb_credit.specs.Private.KeptSums.{IsSmall, AreKept}
use Rattle.kb_credit.proofs.Integers.{nat_abs-add}
use Rattle.kb_credit.proofs.SizeLaws.{nat_abs-sum_of}
use Rattle.kb_credit.proofs.PaidRows.{nat_abs-member, nat_abs-paid_at, paid-paid_at}
use Rattle.kb_credit.proofs.AdjustedPlaces.{size_of-open}

-- what is charged after an invoice is issued
pub small-issued : (rows : List Row) (lines : List Line) (sum total : ℤ) → sum ≡ charged rows
    → total ≡ sum_of amount_of lines
    → size_of (λ (row : Row). row.total) rows + size_of amount_of lines ≤ max_sum
    → nat_abs (sum +ℤ total) ≤ 2 ^ 126
small-issued rows lines sum total is also bounded =
    let both = nat_abs-add sum total in
    let before = ap nat_abs is in
    let more = ap nat_abs also in
    let first = nat_abs-sum_of (λ (row : Row). row.total) rows in
    let second = nat_abs-sum_of amount_of lines in
    omega arith

-- the row that is paid on
pub IsSmall-paid : (value : InvoicesValue) (place : ℕ) (amount : ℤ) (row : Row) → AreInvoices value
    → slice_get value.rows place ≡ Some row
    → size_of (λ (row : Row). row.paid) (paid_at place amount value.rows) ≤ max_sum
    → IsSmall (record row { paid = row.paid +ℤ amount })
IsSmall-paid value place amount row are is bounded =
    let total = nat_abs-member (λ (row : Row). row.total) place row value.rows is in
    let adjustment = nat_abs-member (λ (row : Row). row.adjusted) place row value.rows is in
    let payment = nat_abs-paid_at place amount row value.rows is in
    let totals = are.totals in
    let adjustments = are.adjustments in
    omega arith

-- what is paid after it
pub small-paid : (rows : List Row) (place : ℕ) (amount sum : ℤ) (row : Row) → sum ≡ paid rows
    → slice_get rows place ≡ Some row
    → size_of (λ (row : Row). row.paid) (paid_at place amount rows) ≤ max_sum
    → nat_abs (sum +ℤ amount) ≤ 2 ^ 126
small-paid rows place amount sum row is there bounded =
    let moved = ap nat_abs (ap (λ before. before +ℤ amount) is
    ∙ sym (paid-paid_at place amount row rows there)) in
    let small = nat_abs-sum_of (λ (row : Row). row.paid) (paid_at place amount rows) in
    omega arith

-- what is charged and paid
pub small-levelled : (value : InvoicesValue) (invoices : List OpenInvoice) (sums : Sums) → AreInvoices value
    → AreKept value.rows invoices sums → nat_abs sums.charged + nat_abs sums.paid ≤ 2 ^ 126
small-levelled value invoices sums are kept =
    let charges = ap nat_abs kept.totals in
    let payments = ap nat_abs kept.pays in
    let first = nat_abs-sum_of (λ (row : Row). row.total) value.rows in
    let second = nat_abs-sum_of (λ (row : Row). row.paid) value.rows in
    let totals = are.totals in
    let pays = are.payments in
    omega arith

-- the credit and all balances
pub small-open : (value : InvoicesValue) (invoices : List OpenInvoice) (sums : Sums) → AreInvoices value
    → AreKept value.rows invoices sums
    → nat_abs sums.credit + size_of (λ (one : OpenInvoice). one.balance) invoices ≤ 2 ^ 126
small-open value invoices sums are kept =
    let credits = ap nat_abs kept.credits in
    let first = nat_abs-sum_of (λ (row : Row). row.adjusted) value.rows in
    let all = size_of-open value are in
    let same = ap (size_of (λ (one : OpenInvoice). one.balance)) kept.opens in
    let adjustments = are.adjustments in
    omega arith
