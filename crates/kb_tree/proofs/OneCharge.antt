-- A settled day has one charge or none, and what that tells of what is wrong or missing on it.
use Rattle.std.proofs.Common.{◌≡◌, ℕ, List, [], ◌∷◌, map, Option, Some, None, option_to_list, refl, ap}
use Rattle.kb_due.specs.declared.cell.Cell.{Cell}
use Rattle.kb_due.proofs.SameCells.{same_cell-same}
use Rattle.kb_tree.specs.Items.{Charge}
use Rattle.kb_tree.specs.Repairs.{wrong_among, missing_among}

-- the cells of some charges
abbrev pub cells_of : List Charge → List Cell
cells_of charges = map (λ (charge : Charge). charge.cell) charges

-- charges without a cell are none
pub no-charge : (charges : List Charge) → cells_of charges ≡ [] → charges ≡ []
no-charge [] e = refl
no-charge (charge ∷ charges) e = absurd (cc)

-- charges by one cell are one charge by it
pub one-charge : (charges : List Charge) (cell : Cell) → cells_of charges ≡ cell ∷ []
    → (number : ℕ) × (charges ≡ record { number = number; cell = cell } ∷ [])
one-charge [] cell e = absurd (cc)
one-charge (charge ∷ []) cell e =
    let same : charge.cell ≡ cell = cc in
    (charge.number, ap {B = List Charge} (λ c. record { number = charge.number; cell = c } ∷ []) same)
one-charge (charge ∷ next ∷ charges) cell e = absurd (cc)

-- where the charge is by the due cell, or none is and nothing is due, no charge is wrong
pub wrong-same : (charges : List Charge) (due : Option Cell) → cells_of charges ≡ option_to_list due
    → wrong_among charges due ≡ None
wrong-same charges None e = rw (no-charge charges e)
wrong-same charges (Some cell) e = rw ((one-charge charges cell e).1, same_cell-same.complete cell)

-- and nothing is missing
pub missing-same : (charges : List Charge) (due : Option Cell) → cells_of charges ≡ option_to_list due
    → missing_among charges due ≡ None
missing-same charges None e = refl
missing-same charges (Some cell) e = rw ((one-charge charges cell e).1, same_cell-same.complete cell)
