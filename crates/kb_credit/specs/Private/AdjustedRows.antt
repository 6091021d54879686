-- Rows that get adjustments one after another.
use Rattle.std.specs.Prelude.{◌≡◌, ℕ, zero, suc, ◌-◌, List, [], ◌∷◌, ℤ, pos, refl}
use Rattle.kb_credit.specs.declared.row.Row.{Row}
use Rattle.kb_credit.specs.declared.adjustment.Adjustment.{Adjustment}
use Rattle.kb_credit.specs.InvoiceRows.{march_row, repair_row}
use Rattle.kb_credit.specs.Levelling.{adjust}

-- the row at a place gets an adjustment
abbrev pub adjust_at : ℕ → ℤ → List Row → List Row
adjust_at place amount [] = []
adjust_at zero amount (row ∷ rows) = adjust row amount ∷ rows
adjust_at (suc place) amount (row ∷ rows) = row ∷ adjust_at place amount rows

-- each adjustment is made on the row of its number
abbrev pub adjusted : List Adjustment → List Row → List Row
adjusted [] rows = rows
adjusted (one ∷ later) rows = adjusted later (adjust_at (one.invoice - 1) one.amount rows)

second_adjusted : adjusted (record { invoice = 2; amount = pos 387 } ∷ []) (march_row ∷ repair_row ∷ [])
    ≡ march_row ∷ adjust repair_row (pos 387) ∷ []
second_adjusted = refl
