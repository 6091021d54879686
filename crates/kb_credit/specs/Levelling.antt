-- Levelling: two passes over the invoices, each from the lowest number on.
use Rattle.std.specs.Prelude.{ℕ, zero, ◌+◌, List, [], ◌∷◌, ◌++◌, map, ◌≡◌, refl, ℤ, pos, neg_ℤ, ◌+ℤ◌}
use Rattle.std.specs.Prelude.{◌-ℤ◌, int_lt, cond}
use Rattle.std.specs.Int.{int_min}
use Rattle.kb_credit.specs.declared.row.Row.{Row}
use Rattle.kb_credit.specs.declared.line.Line.{Line}
use Rattle.kb_credit.specs.declared.line.Line.TheVariants.{Cba}
use Rattle.kb_credit.specs.InvoiceRows.{balance_of, unpaid_of, credit, march_row, repair_row}

-- an invoice gets a credit adjustment
abbrev pub adjust : Row → ℤ → Row
adjust row amount = record row { adjusted = row.adjusted +ℤ amount }

-- The first pass makes credit: what an invoice is below 0 is added to it, so that its balance is 0.
abbrev pub made_on : Row → ℤ
made_on row = cond (int_lt (balance_of row) (pos 0)) (neg_ℤ (balance_of row)) (pos 0)

abbrev pub with_made : Row → Row
with_made row = adjust row (made_on row)

-- The second pass uses credit: each unpaid invoice takes what is unpaid of it, or all that is left of the
-- credit then.
abbrev pub used_on : ℤ → Row → ℤ
used_on left row = int_min left (unpaid_of row)

abbrev pub with_used : ℤ → List Row → List Row
with_used left [] = []
with_used left (row ∷ rows) =
    adjust row (neg_ℤ (used_on left row)) ∷ with_used (left -ℤ used_on left row) rows

-- the invoices after both passes: all credit is there before any is used
abbrev pub levelled_rows : List Row → List Row
levelled_rows rows = with_used (credit (map with_made rows)) (map with_made rows)

-- a credit adjustment on the invoice of a number; none is made of 0
abbrev pub adjustment : ℕ → ℤ → List (ℕ × Line) → List (ℕ × Line)
adjustment invoice (pos zero) later = later
adjustment invoice amount later = (invoice, Cba amount) ∷ later

-- the credit adjustments of each pass over rows that are numbered from one on
abbrev pub made_items : ℕ → List Row → List (ℕ × Line)
made_items invoice [] = []
made_items invoice (row ∷ rows) = adjustment invoice (made_on row) (made_items (invoice + 1) rows)

abbrev pub used_items : ℤ → ℕ → List Row → List (ℕ × Line)
used_items left invoice [] = []
used_items left invoice (row ∷ rows) =
    adjustment invoice (neg_ℤ (used_on left row)) (used_items (left -ℤ used_on left row) (invoice + 1) rows)

-- the credit adjustments of levelling, in their order
abbrev pub level_items : List Row → List (ℕ × Line)
level_items rows =
    made_items 1 rows ++ used_items (credit (map with_made rows)) 1 (map with_made rows)

-- 387 are given back and used on the 900 that are unpaid
march_items : level_items (march_row ∷ repair_row ∷ [])
    ≡ (2, Cba (pos 387)) ∷ (1, Cba (neg_ℤ (pos 387))) ∷ []
march_items = refl

march_balances : map balance_of (levelled_rows (march_row ∷ repair_row ∷ [])) ≡ pos 513 ∷ pos 0 ∷ []
march_balances = refl
