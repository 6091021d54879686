-- The charges that are left on a day once repairs have taken one off, and those that bills add.
use Rattle.std.specs.Prelude.{ℕ, ◌+◌, ◌≡◌, Bool, not, ◌==◌, List, [], ◌∷◌, ◌++◌, length, filter, Option}
use Rattle.std.specs.Prelude.{Some, option_to_list, refl}
use Rattle.std.specs.List.{list_any}
use Rattle.kb_base.specs.Runs.{Stretch, runs, values_on}
use Rattle.kb_due.specs.declared.cell.Cell.{Cell}
use Rattle.kb_due.specs.CellStretches.{same_cell}
use Rattle.kb_tree.specs.Items.{Charge, march_charge}
use Rattle.kb_tree.specs.Repairs.{wrong_among, missing_among, new_repairs}

-- a number is the one, if there is one
abbrev pub is_number : Option ℕ → ℕ → Bool
is_number one number = list_any (λ value. value == number) (option_to_list one)

-- the charges of another number than the one, if there is one
abbrev pub charges_but : Option ℕ → List Charge → List Charge
charges_but one charges = filter (λ (charge : Charge). not (is_number one charge.number)) charges

taken_off : charges_but (Some 3) (march_charge ∷ []) ≡ []
taken_off = refl

-- stretches of days with a cell, as stretches with charges that have the numbers from one on
abbrev pub billed_from : ℕ → List (Stretch Cell) → List (Stretch Charge)
billed_from number [] = []
billed_from number (stretch ∷ later) =
    record { from = stretch.from; to = stretch.to; value = record { number = number; cell = stretch.value } }
    ∷ billed_from (number + 1) later

-- the runs of days with the same missing cell
abbrev pub missing_runs : (ℕ → List Charge) → (ℕ → Option Cell) → ℕ → ℕ → List (Stretch Cell)
missing_runs charges due day count = runs same_cell (λ d. missing_among (charges d) (due d)) day count

-- the charges of a day once new items with the numbers from one on are added
abbrev pub charges_after : (ℕ → List Charge) → (ℕ → Option Cell) → ℕ → ℕ → ℕ → ℕ → List Charge
charges_after charges due day count first d =
    charges_but (wrong_among (charges d) (due d)) (charges d)
    ++ values_on d (billed_from (first + length (new_repairs charges due day count))
    (missing_runs charges due day count))
