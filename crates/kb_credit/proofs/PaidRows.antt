-- Rows of which one is paid on.
use Rattle.std.proofs.Common.{◌≡◌, ℕ, zero, suc, ◌+◌, ◌≤◌, List, [], ◌∷◌, ℤ, ◌+ℤ◌, nat_abs, length}
use Rattle.std.proofs.Common.{slice_get, set, Some, refl, ap, arith}
use Rattle.std.proofs.lemmas.Int.{ints}
use Rattle.kb_credit.specs.declared.row.Row.{Row}
use Rattle.kb_sharing.specs.Sums.{sum_of}
use Rattle.kb_credit.specs.Sizes.{size_of}
use Rattle.kb_credit.specs.InvoiceRows.{paid}
use Rattle.kb_credit.specs.InvoiceEdits.{paid_at}

pub length-paid_at : (place : ℕ) (amount : ℤ) (rows : List Row) → length (paid_at place amount rows)
    ≡ length rows
length-paid_at place amount [] = refl
length-paid_at zero amount (row ∷ rows) = refl
length-paid_at (suc place) amount (row ∷ rows) = ap suc (length-paid_at place amount rows)

-- what isn't paid stays
module _ (weight : Row → ℤ)
    (kept : (row : Row) (paid : ℤ) → weight (record row { paid = paid }) ≡ weight row) where
  pub sum_of-paid_at : (place : ℕ) (amount : ℤ) (rows : List Row)
      → sum_of weight (paid_at place amount rows) ≡ sum_of weight rows
  sum_of-paid_at place amount [] = refl
  sum_of-paid_at zero amount (row ∷ rows) =
      ap (λ first. first +ℤ sum_of weight rows) (kept row (row.paid +ℤ amount))
  sum_of-paid_at (suc place) amount (row ∷ rows) =
      ap (λ later. weight row +ℤ later) (sum_of-paid_at place amount rows)

  pub size_of-paid_at : (place : ℕ) (amount : ℤ) (rows : List Row)
      → size_of weight (paid_at place amount rows) ≡ size_of weight rows
  size_of-paid_at place amount [] = refl
  size_of-paid_at zero amount (row ∷ rows) =
      ap (λ first. nat_abs first + size_of weight rows) (kept row (row.paid +ℤ amount))
  size_of-paid_at (suc place) amount (row ∷ rows) =
      ap (λ later. nat_abs (weight row) + later) (size_of-paid_at place amount rows)

-- what is paid moves
pub paid-paid_at : (place : ℕ) (amount : ℤ) (row : Row) (rows : List Row) → slice_get rows place ≡ Some row
    → paid (paid_at place amount rows) ≡ paid rows +ℤ amount
paid-paid_at place amount row [] is = absurd (cc)
paid-paid_at zero amount row (first ∷ rows) is = omega (arith, ints)
paid-paid_at (suc place) amount row (first ∷ rows) is =
    let later = paid-paid_at place amount row rows is in omega (arith, ints)

-- the row in place of the one that is paid on
pub set-paid_at : (place : ℕ) (amount : ℤ) (row : Row) (rows : List Row) → slice_get rows place ≡ Some row
    → set rows place (record row { paid = row.paid +ℤ amount }) ≡ paid_at place amount rows
set-paid_at place amount row [] is = absurd (cc)
set-paid_at zero amount row (first ∷ rows) is =
    let same : first ≡ row = cc in
    rw same
set-paid_at (suc place) amount row (first ∷ rows) is =
    ap (λ later. first ∷ later) (set-paid_at place amount row rows is)

-- a member is no larger than all
pub nat_abs-member : {A : Type 0} (weight : A → ℤ) (place : ℕ) (member : A) (members : List A)
    → slice_get members place ≡ Some member → nat_abs (weight member) ≤ size_of weight members
nat_abs-member weight place member [] is = absurd (cc)
nat_abs-member weight zero member (first ∷ later) is =
    let same : first ≡ member = cc in
    rw same (omega arith)
nat_abs-member weight (suc place) member (first ∷ later) is =
    let rest = nat_abs-member weight place member later is in omega arith

-- nor is what is then paid on the invoice
pub nat_abs-paid_at : (place : ℕ) (amount : ℤ) (row : Row) (rows : List Row) → slice_get rows place ≡ Some row
    → nat_abs (row.paid +ℤ amount) ≤ size_of (λ (row : Row). row.paid) (paid_at place amount rows)
nat_abs-paid_at place amount row [] is = absurd (cc)
nat_abs-paid_at zero amount row (first ∷ rows) is =
    let same : first ≡ row = cc in
    rw same (omega arith)
nat_abs-paid_at (suc place) amount row (first ∷ rows) is =
    let later = nat_abs-paid_at place amount row rows is in omega arith
