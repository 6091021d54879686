-- Invoices that are levelled already stay as they are.
use Rattle.std.proofs.Common.{◌≡◌, ℕ, ◌+◌, Bool, true, false, cond, List, [], ◌∷◌, ◌++◌, ℤ, pos, neg_ℤ}
use Rattle.std.proofs.Common.{◌-ℤ◌, ◌≤ℤ◌, int_lt, map, refl, ap, ap₂, ◌∙◌, arith, append-nil, ◌⊎◌, inl, inr}
use Rattle.std.specs.Int.{int_min, int_max}
use Rattle.std.proofs.lemmas.Int.{ints, clamps}
use Rattle.kb_credit.specs.declared.row.Row.{Row}
use Rattle.kb_credit.specs.InvoiceRows.{InvoicesValue, balance_of, charged, paid, credit, unpaid}
use Rattle.kb_credit.specs.Levelling.{adjust, made_on, with_made, used_on, with_used, levelled_rows}
use Rattle.kb_credit.specs.Levelling.{adjustment}
use Rattle.kb_credit.specs.Levelling.{made_items, used_items, level_items}
use Rattle.kb_credit.specs.InvoiceEdits.{levelled}
use Rattle.kb_credit.proofs.RowBalances.{adjust_none, int_max-least}
use Rattle.kb_credit.proofs.ClosedForm.{AreWhole, AreWhole-levelled_rows, unpaid-least, credit-levelled_rows}
use Rattle.kb_credit.proofs.ClosedForm.{unpaid-levelled}

-- nothing is made of a balance that isn't negative
made_none : (row : Row) → pos 0 ≤ℤ balance_of row → made_on row ≡ pos 0
made_none row whole = by (int_lt (balance_of row) (pos 0)) refl
  where
    by : (test : Bool) → int_lt (balance_of row) (pos 0) ≡ test
        → cond test (neg_ℤ (balance_of row)) (pos 0) ≡ pos 0
    by true below = omega (arith, ints)
    by false above = refl

with_made_none : (rows : List Row) → AreWhole rows → map with_made rows ≡ rows
with_made_none [] whole = refl
with_made_none (row ∷ rows) whole =
    ap₂ (λ first later. first ∷ later) (ap (adjust row) (made_none row whole.0) ∙ adjust_none row)
    (with_made_none rows whole.1)

made_items_none : (invoice : ℕ) (rows : List Row) → AreWhole rows → made_items invoice rows ≡ []
made_items_none invoice [] whole = refl
made_items_none invoice (row ∷ rows) whole =
    ap (λ amount. adjustment invoice amount (made_items (invoice + 1) rows)) (made_none row whole.0)
    ∙ made_items_none (invoice + 1) rows whole.1

-- where there is no credit or nothing is unpaid, none is used on the first, nor on the others
used_none : (left : ℤ) (row : Row) (rows : List Row) → pos 0 ≤ℤ left
    → int_min left (unpaid (row ∷ rows)) ≡ pos 0 → used_on left row ≡ pos 0
used_none left row rows whole none =
    let here = int_max-least (balance_of row) in
    let later = unpaid-least rows in
    omega (arith, ints, clamps)

used_none_later : (left : ℤ) (row : Row) (rows : List Row) → pos 0 ≤ℤ left
    → int_min left (unpaid (row ∷ rows)) ≡ pos 0 → int_min left (unpaid rows) ≡ pos 0
used_none_later left row rows whole none =
    let here = int_max-least (balance_of row) in
    let later = unpaid-least rows in
    omega (arith, ints, clamps)

left_same : (left : ℤ) → left -ℤ pos 0 ≡ left
left_same left = omega (arith, ints)

with_used_none : (left : ℤ) (rows : List Row) → pos 0 ≤ℤ left → int_min left (unpaid rows) ≡ pos 0
    → with_used left rows ≡ rows
with_used_none left [] whole none = refl
with_used_none left (row ∷ rows) whole none =
    ap (λ used. adjust row (neg_ℤ used) ∷ with_used (left -ℤ used) rows) (used_none left row rows whole none)
    ∙ ap₂ (λ first later. first ∷ later) (adjust_none row)
    (ap (λ less. with_used less rows) (left_same left)
    ∙ with_used_none left rows whole (used_none_later left row rows whole none))

used_items_none : (left : ℤ) (invoice : ℕ) (rows : List Row) → pos 0 ≤ℤ left
    → int_min left (unpaid rows) ≡ pos 0 → used_items left invoice rows ≡ []
used_items_none left invoice [] whole none = refl
used_items_none left invoice (row ∷ rows) whole none =
    ap (λ used. adjustment invoice (neg_ℤ used) (used_items (left -ℤ used) (invoice + 1) rows))
    (used_none left row rows whole none)
    ∙ ap (λ less. used_items less (invoice + 1) rows) (left_same left)
    ∙ used_items_none left (invoice + 1) rows whole (used_none_later left row rows whole none)

-- after a levelling there is no credit or nothing is unpaid
pub one_side : (rows : List Row) → pos 0 ≤ℤ credit rows
    → int_min (credit (levelled_rows rows)) (unpaid (levelled_rows rows)) ≡ pos 0
one_side rows least =
    let here = credit-levelled_rows rows least in
    let also = unpaid-levelled rows least in
    omega (arith, ints, clamps)

-- so one of the two is 0
pub either_none : (rows : List Row) → pos 0 ≤ℤ credit rows
    → (unpaid (levelled_rows rows) ≡ pos 0) ⊎ (credit (levelled_rows rows) ≡ pos 0)
either_none rows least = by (int_lt (paid rows) (charged rows)) refl
  where
    here : credit (levelled_rows rows) ≡ int_max (pos 0) (paid rows -ℤ charged rows)
    here = credit-levelled_rows rows least

    also : unpaid (levelled_rows rows) ≡ int_max (pos 0) (charged rows -ℤ paid rows)
    also = unpaid-levelled rows least

    by : (test : Bool) → int_lt (paid rows) (charged rows) ≡ test
        → (unpaid (levelled_rows rows) ≡ pos 0) ⊎ (credit (levelled_rows rows) ≡ pos 0)
    by true less = inr (omega (arith, ints, clamps, here))
    by false more = inl (omega (arith, ints, clamps, also))

pub credit-levelled-least : (rows : List Row) → pos 0 ≤ℤ credit rows → pos 0 ≤ℤ credit (levelled_rows rows)
credit-levelled-least rows least =
    let here = credit-levelled_rows rows least in omega (arith, ints, clamps)

-- rows that are level
stay : (rows : List Row) → AreWhole rows → pos 0 ≤ℤ credit rows
    → int_min (credit rows) (unpaid rows) ≡ pos 0 → levelled_rows rows ≡ rows
stay rows whole least none =
    ap (λ made. with_used (credit made) made) (with_made_none rows whole)
    ∙ with_used_none (credit rows) rows least none

stay_empty : (rows : List Row) → AreWhole rows → pos 0 ≤ℤ credit rows
    → int_min (credit rows) (unpaid rows) ≡ pos 0 → level_items rows ≡ []
stay_empty rows whole least none =
    ap₂ (λ made used. made ++ used) (made_items_none 1 rows whole)
    (ap (λ made. used_items (credit made) 1 made) (with_made_none rows whole)
    ∙ used_items_none (credit rows) 1 rows least none)

-- to level again changes nothing
pub levelled-levelled : (invoices : InvoicesValue) → pos 0 ≤ℤ credit invoices.rows
    → levelled (levelled invoices) ≡ levelled invoices
levelled-levelled invoices least =
    let rows = levelled_rows invoices.rows in
    let whole = AreWhole-levelled_rows invoices.rows in
    let credited = credit-levelled-least invoices.rows least in
    let none = one_side invoices.rows least in
    let items = invoices.items ++ level_items invoices.rows in
    let same : levelled_rows rows ≡ rows = stay rows whole credited none in
    let empty : items ++ level_items rows ≡ items =
    ap (λ more. items ++ more) (stay_empty rows whole credited none) ∙ append-nil items in
    ap₂ (λ (r : List Row) i. record { rows = r; items = i }) same empty
