-- One row that is adjusted, and how large adjustments are.
use Rattle.std.proofs.Common.{◌≡◌, ℕ, zero, suc, ◌+◌, ◌*◌, ◌≤◌, List, [], ◌∷◌, ℤ, pos, negsuc, neg_ℤ}
use Rattle.std.proofs.Common.{◌-ℤ◌, ◌≤ℤ◌, nat_abs, slice_get, set, Some, None, refl, ap, arith}
use Rattle.std.proofs.lemmas.Int.{ints, clamps}
use Rattle.kb_credit.specs.Sizes.{size_of}
use Rattle.kb_credit.specs.declared.row.Row.{Row}
use Rattle.kb_credit.specs.declared.open_invoice.OpenInvoice.{OpenInvoice}
use Rattle.kb_credit.specs.declared.adjustment.Adjustment.{Adjustment}
use Rattle.kb_credit.specs.InvoiceEdits.{max_sum, AreInvoices}
use Rattle.kb_credit.specs.InvoiceRows.{InvoicesValue, credit}
use Rattle.kb_credit.specs.Levelling.{adjust}
use Rattle.kb_credit.specs.Private.AdjustedRows.{adjust_at}
use Rattle.kb_credit.specs.Private.OpenInvoices.{opened}
use Rattle.kb_credit.specs.Private.Passes.{adjusting, made, taken, all_made, all_used, with_all_made}
use Rattle.kb_credit.specs.Private.Passes.{level_adjustments}
use Rattle.kb_credit.specs.Private.KeptSums.{IsSmall}
use Rattle.kb_credit.proofs.Integers.{nat_abs-add, nat_abs-between, nat_abs-most, nat_abs-least}
use Rattle.kb_credit.proofs.SizeLaws.{size_of-append}
use Rattle.kb_credit.proofs.RowBalances.{made-lifts, left-least}
use Rattle.kb_credit.proofs.PaidRows.{nat_abs-member}
use Rattle.kb_credit.proofs.OpenReads.{size_of-opened}
use Rattle.kb_credit.proofs.KeptInvoices.{size_of-balances}
use Rattle.kb_credit.proofs.LevelledRows.{credit-with_made, credit-with_made-least}

-- where there is no row nothing changes
pub adjust_at-none : (place : ℕ) (amount : ℤ) (rows : List Row) → slice_get rows place ≡ None
    → adjust_at place amount rows ≡ rows
adjust_at-none place amount [] none = refl
adjust_at-none zero amount (row ∷ rows) none = absurd (cc)
adjust_at-none (suc place) amount (row ∷ rows) none =
    ap (λ later. row ∷ later) (adjust_at-none place amount rows none)

-- the adjusted row in its place
pub set-adjust_at : (place : ℕ) (amount : ℤ) (row : Row) (rows : List Row) → slice_get rows place ≡ Some row
    → set rows place (adjust row amount) ≡ adjust_at place amount rows
set-adjust_at place amount row [] is = absurd (cc)
set-adjust_at zero amount row (first ∷ rows) is =
    let same : first ≡ row = cc in
    rw same
set-adjust_at (suc place) amount row (first ∷ rows) is =
    ap (λ later. first ∷ later) (set-adjust_at place amount row rows is)

-- an adjustment makes the adjustments larger by no more than itself
pub size_of-adjust_at : (place : ℕ) (amount : ℤ) (rows : List Row)
    → size_of (λ (row : Row). row.adjusted) (adjust_at place amount rows)
    ≤ size_of (λ (row : Row). row.adjusted) rows + nat_abs amount
size_of-adjust_at place amount [] = omega arith
size_of-adjust_at zero amount (row ∷ rows) =
    let here = nat_abs-add row.adjusted amount in omega arith
size_of-adjust_at (suc place) amount (row ∷ rows) =
    let later = size_of-adjust_at place amount rows in omega arith

-- the adjustments of a levelling are no larger than twice the balances
size_of-adjusting : (number : ℕ) (amount : ℤ) (later : List Adjustment)
    → size_of (λ (one : Adjustment). one.amount) (adjusting number amount later)
    ≡ nat_abs amount + size_of (λ (one : Adjustment). one.amount) later
size_of-adjusting number (pos zero) later = omega arith
size_of-adjusting number (pos (suc n)) later = refl
size_of-adjusting number (negsuc n) later = refl

nat_abs-made : (balance : ℤ) → nat_abs (made balance) ≤ nat_abs balance
nat_abs-made balance =
    let lifts = made-lifts balance in
    let most = nat_abs-most balance in
    let least = nat_abs-least balance in
    nat_abs-between (made balance) (nat_abs balance)
    (omega (arith, ints, clamps))
    (omega (arith, ints, clamps))

nat_abs-taken : (left balance : ℤ) → pos 0 ≤ℤ left → nat_abs (neg_ℤ (taken left balance)) ≤ nat_abs balance
nat_abs-taken left balance whole =
    let most = nat_abs-most balance in
    let low = nat_abs-least balance in
    nat_abs-between (neg_ℤ (taken left balance)) (nat_abs balance)
    (omega (arith, ints, clamps))
    (omega (arith, ints, clamps))

size_of-all_made : (invoices : List OpenInvoice)
    → size_of (λ (one : Adjustment). one.amount) (all_made invoices)
    ≤ size_of (λ (one : OpenInvoice). one.balance) invoices
size_of-all_made [] = omega arith
size_of-all_made (one ∷ later) =
    let first = size_of-adjusting one.invoice (made one.balance) (all_made later) in
    let small = nat_abs-made one.balance in
    let rest = size_of-all_made later in
    omega arith

size_of-all_used : (left : ℤ) (invoices : List OpenInvoice) → pos 0 ≤ℤ left
    → size_of (λ (one : Adjustment). one.amount) (all_used left invoices)
    ≤ size_of (λ (one : OpenInvoice). one.balance) invoices
size_of-all_used left [] whole = omega arith
size_of-all_used left (one ∷ later) whole =
    let more = all_used (left -ℤ taken left one.balance) later in
    let first = size_of-adjusting one.invoice (neg_ℤ (taken left one.balance)) more in
    let small = nat_abs-taken left one.balance whole in
    let rest = size_of-all_used (left -ℤ taken left one.balance) later (left-least left one.balance) in
    omega arith

-- the balances of invoices are small
pub size_of-open : (invoices : InvoicesValue) → AreInvoices invoices
    → size_of (λ (one : OpenInvoice). one.balance) (opened 1 invoices.rows) ≤ 6 * max_sum
size_of-open invoices are =
    let same = size_of-opened 1 invoices.rows in
    let all = size_of-balances invoices.rows in
    let totals = are.totals in
    let payments = are.payments in
    let adjustments = are.adjustments in
    omega arith

-- and so are the adjustments of their levelling
pub size_of-level : (invoices : InvoicesValue) → AreInvoices invoices
    → size_of (λ (one : Adjustment). one.amount)
    (level_adjustments (credit invoices.rows) (opened 1 invoices.rows))
    ≤ 12 * max_sum
size_of-level invoices are =
    let rows = invoices.rows in
    let left = with_all_made (credit rows) (opened 1 rows) in
    let least : pos 0 ≤ℤ left = rw (credit-with_made 1 rows) (credit-with_made-least rows are.credited) in
    let both = size_of-append (λ (one : Adjustment). one.amount) (all_made (opened 1 rows))
    (all_used left (opened 1 rows)) in
    let first = size_of-all_made (opened 1 rows) in
    let second = size_of-all_used left (opened 1 rows) least in
    let small = size_of-open invoices are in
    omega arith

-- each row is small
pub IsSmall-row : (invoices : InvoicesValue) (place : ℕ) (row : Row) → AreInvoices invoices
    → slice_get invoices.rows place ≡ Some row → IsSmall row
IsSmall-row invoices place row are is =
    let total = nat_abs-member (λ (row : Row). row.total) place row invoices.rows is in
    let adjustment = nat_abs-member (λ (row : Row). row.adjusted) place row invoices.rows is in
    let payment = nat_abs-member (λ (row : Row). row.paid) place row invoices.rows is in
    let totals = are.totals in
    let payments = are.payments in
    let adjustments = are.adjustments in
    omega arith
