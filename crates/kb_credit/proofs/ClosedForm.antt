-- Credit and what is unpaid after a levelling, in closed form.
use Rattle.std.proofs.Common.{◌≡◌, suc, ◌+◌, List, [], ◌∷◌, ℤ}
use Rattle.std.proofs.Common.{pos, neg_ℤ, ◌+ℤ◌, ◌-ℤ◌, ◌≤ℤ◌, nat_abs, length, map, refl, ap, ap₂, ◌∙◌}
use Rattle.std.proofs.Common.{arith}
use Rattle.std.specs.Prelude.{⊤, All}
use Rattle.std.specs.Int.{int_min, int_max}
use Rattle.std.proofs.lemmas.Int.{ints, clamps}
use Rattle.std.proofs.lemmas.List.Elements.{All-nil, All-cons}
use Rattle.kb_credit.specs.declared.row.Row.{Row}
use Rattle.kb_sharing.specs.Sums.{sum_of}
use Rattle.kb_credit.specs.Sizes.{size_of}
use Rattle.kb_credit.specs.InvoiceRows.{balance_of, unpaid_of, charged, paid, credit, unpaid}
use Rattle.kb_credit.specs.Levelling.{adjust, made_on, with_made, used_on, with_used, levelled_rows}
use Rattle.kb_credit.proofs.RowBalances.{balance_of-adjust, balance_of-with_made, int_max-least}
use Rattle.kb_credit.proofs.LevelledRows.{credit-with_made-least}

-- no balance is negative
abbrev pub AreWhole : List Row → Type 0
AreWhole [] = ⊤
AreWhole (row ∷ rows) = (pos 0 ≤ℤ balance_of row) × AreWhole rows

pub All-AreWhole : (rows : List Row) → AreWhole rows → All (λ (row : Row). pos 0 ≤ℤ balance_of row) rows
All-AreWhole [] whole = All-nil (λ (row : Row). pos 0 ≤ℤ balance_of row)
All-AreWhole (row ∷ rows) whole =
    All-cons (λ (row : Row). pos 0 ≤ℤ balance_of row) row rows whole.0 (All-AreWhole rows whole.1)

-- after the first pass none is
AreWhole-with_made : (rows : List Row) → AreWhole (map with_made rows)
AreWhole-with_made [] = tt
AreWhole-with_made (row ∷ rows) =
    let is = balance_of-with_made row in
    let least = int_max-least (balance_of row) in
    (rw is least, AreWhole-with_made rows)

-- nor after the second
AreWhole-with_used : (left : ℤ) (rows : List Row) → AreWhole rows → AreWhole (with_used left rows)
AreWhole-with_used left [] whole = tt
AreWhole-with_used left (row ∷ rows) whole =
    let here = whole.0 in
    let is = balance_of-adjust row (neg_ℤ (used_on left row)) in
    let before = balance_of row in
    let least : pos 0 ≤ℤ (before +ℤ neg_ℤ (int_min left (int_max (pos 0) before))) =
    omega (arith, ints, clamps) in
    (rw is least, AreWhole-with_used (left -ℤ used_on left row) rows whole.1)

-- what isn't adjusted stays
module _ (weight : Row → ℤ) (kept : (row : Row) (amount : ℤ) → weight (adjust row amount) ≡ weight row) where
  sum_of-with_made : (rows : List Row) → sum_of weight (map with_made rows) ≡ sum_of weight rows
  sum_of-with_made [] = refl
  sum_of-with_made (row ∷ rows) = ap₂ (λ a b. a +ℤ b) (kept row (made_on row)) (sum_of-with_made rows)

  sum_of-with_used : (left : ℤ) (rows : List Row) → sum_of weight (with_used left rows) ≡ sum_of weight rows
  sum_of-with_used left [] = refl
  sum_of-with_used left (row ∷ rows) =
      ap₂ (λ a b. a +ℤ b) (kept row (neg_ℤ (used_on left row)))
      (sum_of-with_used (left -ℤ used_on left row) rows)

  pub sum_of-levelled_rows : (rows : List Row) → sum_of weight (levelled_rows rows) ≡ sum_of weight rows
  sum_of-levelled_rows rows =
      sum_of-with_used (credit (map with_made rows)) (map with_made rows) ∙ sum_of-with_made rows

  size_of-with_made : (rows : List Row) → size_of weight (map with_made rows) ≡ size_of weight rows
  size_of-with_made [] = refl
  size_of-with_made (row ∷ rows) =
      ap₂ (λ a b. nat_abs a + b) (kept row (made_on row)) (size_of-with_made rows)

  size_of-with_used : (left : ℤ) (rows : List Row) → size_of weight (with_used left rows)
      ≡ size_of weight rows
  size_of-with_used left [] = refl
  size_of-with_used left (row ∷ rows) =
      ap₂ (λ a b. nat_abs a + b) (kept row (neg_ℤ (used_on left row)))
      (size_of-with_used (left -ℤ used_on left row) rows)

  pub size_of-levelled_rows : (rows : List Row) → size_of weight (levelled_rows rows) ≡ size_of weight rows
  size_of-levelled_rows rows =
      size_of-with_used (credit (map with_made rows)) (map with_made rows) ∙ size_of-with_made rows

pub charged-levelled_rows : (rows : List Row) → charged (levelled_rows rows) ≡ charged rows
charged-levelled_rows rows = sum_of-levelled_rows (λ (row : Row). row.total) (λ row amount. refl) rows

pub paid-levelled_rows : (rows : List Row) → paid (levelled_rows rows) ≡ paid rows
paid-levelled_rows rows = sum_of-levelled_rows (λ (row : Row). row.paid) (λ row amount. refl) rows

-- how many there are
length-with_made : (rows : List Row) → length (map with_made rows) ≡ length rows
length-with_made [] = refl
length-with_made (row ∷ rows) = ap suc (length-with_made rows)

length-with_used : (left : ℤ) (rows : List Row) → length (with_used left rows) ≡ length rows
length-with_used left [] = refl
length-with_used left (row ∷ rows) = ap suc (length-with_used (left -ℤ used_on left row) rows)

pub length-levelled_rows : (rows : List Row) → length (levelled_rows rows) ≡ length rows
length-levelled_rows rows =
    length-with_used (credit (map with_made rows)) (map with_made rows) ∙ length-with_made rows

-- what is unpaid isn't negative
pub unpaid-least : (rows : List Row) → pos 0 ≤ℤ unpaid rows
unpaid-least [] = omega (arith, ints)
unpaid-least (row ∷ rows) =
    let here = int_max-least (balance_of row) in let later = unpaid-least rows in omega (arith, ints)

-- where no balance is negative, what is unpaid is what all balances add up to
unpaid-whole : (rows : List Row) → AreWhole rows → unpaid rows +ℤ paid rows ≡ charged rows +ℤ credit rows
unpaid-whole [] whole = refl
unpaid-whole (row ∷ rows) whole =
    let here = whole.0 in
    let later = unpaid-whole rows whole.1 in
    let balance = row.total +ℤ row.adjusted -ℤ row.paid in
    let e : (int_max (pos 0) balance +ℤ unpaid rows) +ℤ (row.paid +ℤ paid rows)
    ≡ (row.total +ℤ charged rows) +ℤ (row.adjusted +ℤ credit rows) = omega (arith, ints, clamps) in
    e

-- the second pass uses the less of what there is and what is unpaid
credit-with_used : (left : ℤ) (rows : List Row) → pos 0 ≤ℤ left
    → credit (with_used left rows) +ℤ int_min left (unpaid rows) ≡ credit rows
credit-with_used left [] whole = omega (arith, ints, clamps)
credit-with_used left (row ∷ rows) whole =
    let owed = unpaid_of row in
    let owed_least = int_max-least (balance_of row) in
    let later_least = unpaid-least rows in
    let later = credit-with_used (left -ℤ int_min left owed) rows (omega (arith, ints, clamps)) in
    let rest = credit (with_used (left -ℤ int_min left owed) rows) in
    let e : ((row.adjusted +ℤ neg_ℤ (int_min left owed)) +ℤ rest) +ℤ int_min left (owed +ℤ unpaid rows)
    ≡ row.adjusted +ℤ credit rows = omega (arith, ints, clamps) in
    e

-- the levelled rows have no negative balance
pub AreWhole-levelled_rows : (rows : List Row) → AreWhole (levelled_rows rows)
AreWhole-levelled_rows rows =
    AreWhole-with_used (credit (map with_made rows)) (map with_made rows) (AreWhole-with_made rows)

-- what is unpaid less the credit is what is charged less what is paid
pub unpaid-levelled_rows : (rows : List Row)
    → unpaid (levelled_rows rows) +ℤ paid rows ≡ charged rows +ℤ credit (levelled_rows rows)
unpaid-levelled_rows rows =
    let whole = unpaid-whole (levelled_rows rows) (AreWhole-levelled_rows rows) in
    let same = charged-levelled_rows rows in
    let also = paid-levelled_rows rows in
    omega (arith, ints)

-- the credit in closed form
pub credit-levelled_rows : (rows : List Row) → pos 0 ≤ℤ credit rows
    → credit (levelled_rows rows) ≡ int_max (pos 0) (paid rows -ℤ charged rows)
credit-levelled_rows rows least =
    let made = map with_made rows in
    let used = credit-with_used (credit made) made (credit-with_made-least rows least) in
    let whole = unpaid-whole made (AreWhole-with_made rows) in
    let same = sum_of-with_made (λ (row : Row). row.total) (λ row amount. refl) rows in
    let also = sum_of-with_made (λ (row : Row). row.paid) (λ row amount. refl) rows in
    omega (arith, ints, clamps)

-- and so is what is unpaid
pub unpaid-levelled : (rows : List Row) → pos 0 ≤ℤ credit rows
    → unpaid (levelled_rows rows) ≡ int_max (pos 0) (charged rows -ℤ paid rows)
unpaid-levelled rows least =
    let is = credit-levelled_rows rows least in
    let both = unpaid-levelled_rows rows in
    omega (arith, ints, clamps)
