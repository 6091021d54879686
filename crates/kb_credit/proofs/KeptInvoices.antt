-- What always holds of invoices holds after each edit.
use Rattle.std.proofs.Common.{◌≡◌, ℕ, ◌+◌, ◌-◌, ◌^◌, ◌≤◌, ◌<◌, List, [], ◌∷◌, ℤ, pos}
use Rattle.std.proofs.Common.{◌+ℤ◌, ◌-ℤ◌, ◌≤ℤ◌, nat_abs, length, refl, arith}
use Rattle.std.proofs.Common.{length-append}
use Rattle.std.specs.Int.{int_max}
use Rattle.std.proofs.lemmas.Int.{ints, clamps}
use Rattle.kb_credit.specs.declared.row.Row.{Row}
use Rattle.kb_credit.specs.declared.line.Line.{Line}
use Rattle.kb_sharing.specs.Sums.{sum_of}
use Rattle.kb_credit.specs.Sizes.{size_of}
use Rattle.kb_credit.specs.Items.{amount_of}
use Rattle.kb_credit.specs.InvoiceRows.{InvoicesValue, balance_of, charged, paid, credit, unpaid}
use Rattle.kb_credit.specs.Levelling.{levelled_rows}
use Rattle.kb_credit.specs.InvoiceEdits.{max_sum, AreInvoices, issued, paid_at, paid_on}
use Rattle.kb_credit.specs.InvoiceEdits.{levelled}
use Rattle.kb_credit.proofs.Integers.{nat_abs-between, nat_abs-most, nat_abs-least, nat_abs-pos}
use Rattle.kb_sharing.proofs.MemberSums.{sum_of-push}
use Rattle.kb_credit.proofs.SizeLaws.{nat_abs-sum_of, size_of-push}
use Rattle.kb_credit.proofs.ClosedForm.{AreWhole, AreWhole-levelled_rows, unpaid-levelled}
use Rattle.kb_credit.proofs.ClosedForm.{length-levelled_rows}
use Rattle.kb_credit.proofs.ClosedForm.{size_of-levelled_rows}
use Rattle.kb_credit.proofs.LevelledTwice.{credit-levelled-least}
use Rattle.kb_credit.proofs.PaidRows.{length-paid_at, size_of-paid_at, sum_of-paid_at}

-- where no balance is negative, their size is what is unpaid
size_of-whole : (rows : List Row) → AreWhole rows → pos (size_of balance_of rows) ≡ unpaid rows
size_of-whole [] whole = refl
size_of-whole (row ∷ rows) whole =
    let here = whole.0 in
    let is = nat_abs-pos (balance_of row) here in
    let later = size_of-whole rows whole.1 in
    let balance = balance_of row in
    let size = nat_abs balance in
    let rest = size_of balance_of rows in
    let e : pos (size + rest) ≡ int_max (pos 0) balance +ℤ unpaid rows = omega (arith, ints, clamps) in
    e

-- adjustments are no larger than balances, totals and payments together
size_of-adjusted : (rows : List Row)
    → size_of (λ (row : Row). row.adjusted) rows
    ≤ size_of balance_of rows + size_of (λ (row : Row). row.total) rows
    + size_of (λ (row : Row). row.paid) rows
size_of-adjusted [] = omega arith
size_of-adjusted (row ∷ rows) =
    let later = size_of-adjusted rows in
    let balance = balance_of row in
    let is : row.adjusted ≡ balance -ℤ row.total +ℤ row.paid = omega (arith, ints) in
    let size = nat_abs balance + nat_abs row.total + nat_abs row.paid in
    let b_most = nat_abs-most balance in
    let b_least = nat_abs-least balance in
    let t_most = nat_abs-most row.total in
    let t_least = nat_abs-least row.total in
    let p_most = nat_abs-most row.paid in
    let p_least = nat_abs-least row.paid in
    let here = nat_abs-between row.adjusted size (omega (arith, ints)) (omega (arith, ints)) in
    omega arith

-- balances are no larger than totals, adjustments and payments together
pub size_of-balances : (rows : List Row)
    → size_of balance_of rows
    ≤ size_of (λ (row : Row). row.total) rows + size_of (λ (row : Row). row.adjusted) rows
    + size_of (λ (row : Row). row.paid) rows
size_of-balances [] = omega arith
size_of-balances (row ∷ rows) =
    let later = size_of-balances rows in
    let balance = balance_of row in
    let size = nat_abs row.total + nat_abs row.adjusted + nat_abs row.paid in
    let t_most = nat_abs-most row.total in
    let t_least = nat_abs-least row.total in
    let a_most = nat_abs-most row.adjusted in
    let a_least = nat_abs-least row.adjusted in
    let p_most = nat_abs-most row.paid in
    let p_least = nat_abs-least row.paid in
    let here = nat_abs-between balance size (omega (arith, ints)) (omega (arith, ints)) in
    omega arith

-- what is unpaid after a levelling is at most what is charged and what is paid together
unpaid-most : (rows : List Row) → pos 0 ≤ℤ credit rows
    → unpaid (levelled_rows rows)
    ≤ℤ pos (size_of (λ (row : Row). row.total) rows + size_of (λ (row : Row). row.paid) rows)
unpaid-most rows least =
    let is = unpaid-levelled rows least in
    let total = nat_abs-sum_of (λ (row : Row). row.total) rows in
    let pays = nat_abs-sum_of (λ (row : Row). row.paid) rows in
    let t_most = nat_abs-most (charged rows) in
    let p_least = nat_abs-least (paid rows) in
    omega (arith, ints, clamps)

-- a levelling
pub AreInvoices-levelled : (invoices : InvoicesValue) → AreInvoices invoices → AreInvoices (levelled invoices)
AreInvoices-levelled invoices are =
    let rows = invoices.rows in
    let few = are.numbered in
    let totals = are.totals in
    let payments = are.payments in
    let same = size_of-levelled_rows (λ (row : Row). row.total) (λ row amount. refl) rows in
    let also = size_of-levelled_rows (λ (row : Row). row.paid) (λ row amount. refl) rows in
    let balances = size_of-whole (levelled_rows rows) (AreWhole-levelled_rows rows) in
    let owed = unpaid-most rows are.credited in
    let adjusted = size_of-adjusted (levelled_rows rows) in
    let small : size_of balance_of (levelled_rows rows)
    ≤ size_of (λ (row : Row). row.total) rows + size_of (λ (row : Row). row.paid) rows =
    omega (arith, ints) in
    record {
      numbered = rw (length-levelled_rows rows) few;
      totals = rw same totals;
      payments = rw also payments;
      adjustments = omega arith;
      credited = credit-levelled-least rows are.credited;
    }

-- an invoice that is issued
pub AreInvoices-issued : (invoices : InvoicesValue) (day : ℕ) (lines : List Line) → AreInvoices invoices
    → length invoices.rows < 2 ^ 32 - 1
    → size_of (λ (row : Row). row.total) invoices.rows + size_of amount_of lines ≤ max_sum
    → AreInvoices (issued invoices day lines)
AreInvoices-issued invoices day lines are room bounded =
    let rows = invoices.rows in
    let row : Row = record { day = day; total = sum_of amount_of lines; adjusted = pos 0; paid = pos 0 } in
    let payments = are.payments in
    let adjustments = are.adjustments in
    let credited = are.credited in
    let total = size_of-push (λ (row : Row). row.total) rows row in
    let pays = size_of-push (λ (row : Row). row.paid) rows row in
    let adjusted = size_of-push (λ (row : Row). row.adjusted) rows row in
    let sum = sum_of-push (λ (row : Row). row.adjusted) rows row in
    let small = nat_abs-sum_of amount_of lines in
    let longer = length-append rows (row ∷ []) in
    record {
      numbered = omega arith;
      totals = omega arith;
      payments = omega arith;
      adjustments = omega arith;
      credited = omega (arith, ints);
    }

-- a payment
pub AreInvoices-paid_on : (invoices : InvoicesValue) (number : ℕ) (amount : ℤ) → AreInvoices invoices
    → size_of (λ (row : Row). row.paid) (paid_at (number - 1) amount invoices.rows) ≤ max_sum
    → AreInvoices (paid_on invoices number amount)
AreInvoices-paid_on invoices number amount are bounded =
    let rows = invoices.rows in
    let place = number - 1 in
    record {
      numbered = rw (length-paid_at place amount rows) are.numbered;
      totals =
          rw (size_of-paid_at (λ (row : Row). row.total) (λ row paid. refl) place amount rows) are.totals;
      payments = bounded;
      adjustments =
          rw (size_of-paid_at (λ (row : Row). row.adjusted) (λ row paid. refl) place amount rows)
          are.adjustments;
      credited =
          rw (sum_of-paid_at (λ (row : Row). row.adjusted) (λ row paid. refl) place amount rows) are.credited;
    }
