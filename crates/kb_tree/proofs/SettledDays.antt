-- The new items settle each day of the window.
use Rattle.std.proofs.Common.{◌≡◌, ℕ, ◌+◌, ◌<◌, ◌≤◌, Bool, true, false, List, [], ◌∷◌, ◌++◌, length, map}
use Rattle.std.proofs.Common.{Option, Some, None, option_to_list, All, refl, sym, ap, ◌∙◌}
use Rattle.std.proofs.lemmas.Bool.{eq-eqb}
use Rattle.std.proofs.lemmas.List.{map-append}
use Rattle.kb_base.specs.Runs.{Stretch, has_day, values_on}
use Rattle.kb_base.proofs.Covered.{runs-cover}
use Rattle.kb_due.specs.declared.cell.Cell.{Cell}
use Rattle.kb_due.specs.CellStretches.{same_cell}
use Rattle.kb_due.proofs.SameCells.{same_cell-same}
use Rattle.kb_tree.specs.Items.{Numbered, Charge, charges_on, numbered}
use Rattle.kb_tree.specs.Repairs.{wrong_among, missing_among, new_repairs, new_items, IsSettled}
use Rattle.kb_tree.specs.Covers.{IsBelow}
use Rattle.kb_tree.specs.Private.LeftCharges.{charges_but, billed_from, missing_runs, charges_after}
use Rattle.kb_tree.proofs.OneCharge.{cells_of, no-charge, one-charge}
use Rattle.kb_tree.proofs.AddedCharges.{charges_on-added}

-- bills by stretches charge a day by the cells that the stretches have there
values_on-cells : (day first : ℕ) (stretches : List (Stretch Cell))
    → cells_of (values_on day (billed_from first stretches)) ≡ values_on day stretches
values_on-cells day first [] = refl
values_on-cells day first (stretch ∷ later) =
    by_test (has_day day stretch) refl (values_on-cells day (first + 1) later)
  where
    by_test : (there : Bool) → has_day day stretch ≡ there
        → cells_of (values_on day (billed_from (first + 1) later)) ≡ values_on day later
        → cells_of (values_on day (billed_from first (stretch ∷ later))) ≡ values_on day (stretch ∷ later)
    by_test true here rest = rw here (ap (λ cells. stretch.value ∷ cells) rest)
    by_test false here rest = rw here rest

-- the cells that charge once a wrong charge is taken off and a missing one is added
abbrev cells_after : List Charge → Option Cell → List Cell
cells_after charges due =
    cells_of (charges_but (wrong_among charges due) charges) ++ option_to_list (missing_among charges due)

-- a day without a charge gets the due one
cells_after-none : (due : Option Cell) → cells_after [] due ≡ option_to_list due
cells_after-none None = refl
cells_after-none (Some due) = refl

-- a day with one charge keeps it or gets the due one
cells_after-one : (number : ℕ) (cell : Cell) (due : Option Cell)
    → cells_after (record { number = number; cell = cell } ∷ []) due ≡ option_to_list due
cells_after-one number cell None = rw (eq-eqb number number refl)
cells_after-one number cell (Some due) = by_test (same_cell due cell) refl
  where
    by_test : (same : Bool) → same_cell due cell ≡ same
        → cells_after (record { number = number; cell = cell } ∷ []) (Some due) ≡ due ∷ []
    by_test true here = rw here (ap (λ c. c ∷ []) (sym (same_cell-same.sound due cell here)))
    by_test false here = rw (here, eq-eqb number number refl)

-- a day with one charge or none has the due one afterwards
cells_after-due : (charges : List Charge) (old due : Option Cell) → cells_of charges ≡ option_to_list old
    → cells_after charges due ≡ option_to_list due
cells_after-due charges None due e = rw (no-charge charges e) (cells_after-none due)
cells_after-due charges (Some cell) due e =
    let one = one-charge charges cell e in rw one.1 (cells_after-one one.0 cell due)

-- a day of the window that was settled is settled by what the new items leave and add
pub after-settled : (charges : ℕ → List Charge) (old due : ℕ → Option Cell) (day count first d : ℕ)
    → day ≤ d → d < day + count
    → map (λ (charge : Charge). charge.cell) (charges d) ≡ option_to_list (old d)
    → map (λ (charge : Charge). charge.cell) (charges_after charges due day count first d)
    ≡ option_to_list (due d)
after-settled charges old due day count first d low high e =
    let left = charges_but (wrong_among (charges d) (due d)) (charges d) in
    let bills = missing_runs charges due day count in
    let behind = first + length (new_repairs charges due day count) in
    map-append (λ (charge : Charge). charge.cell) left (values_on d (billed_from behind bills))
    ∙ ap (λ more. cells_of left ++ more)
    (values_on-cells d behind bills
    ∙ runs-cover same_cell same_cell-same (λ on. missing_among (charges on) (due on)) day count d low high)
    ∙ cells_after-due (charges d) (old d) (due d) e

-- with the new items each day of the window has the due charge, and no other
pub settled : (items : List Numbered) (old due : ℕ → Option Cell) (first day count : ℕ)
    → IsSettled (charges_on items) old day count → All (IsBelow first) items
    → IsSettled (charges_on (items ++ numbered first (new_items (charges_on items) due day count))) due day
    count
settled items old due first day count is below d low high =
    ap cells_of (charges_on-added items due first day count d low high below)
    ∙ after-settled (charges_on items) old due day count first d low high (is d low high)
