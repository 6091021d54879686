-- The new items of a cover: what makes the charges of each day those that are due.
-- Definitions over days take a first day and a number of days.
use Rattle.std.specs.Prelude.{ℕ, ◌+◌, ◌≡◌, ◌<◌, ◌≤◌, Bool, false, not, nat_eq, if◌then◌else◌, List, [], ◌∷◌}
use Rattle.std.specs.Prelude.{◌++◌, map, find, Option, Some, None, option_map, option_to_list, refl}
use Rattle.std.specs.List.{list_any}
use Rattle.kb_base.specs.Runs.{Stretch, runs}
use Rattle.kb_days.specs.Dates.{march, april}
use Rattle.kb_due.specs.declared.cell.Cell.{Cell}
use Rattle.kb_due.specs.CellStretches.{same_cell}
use Rattle.kb_tree.specs.declared.item.NewItem.{NewItem}
use Rattle.kb_tree.specs.declared.item.NewItem.TheVariants.{Bill, Repair}
use Rattle.kb_tree.specs.Items.{Charge, covers, charges_on, march_cell, march_bill, march_charge}

-- a cell is the one that is due
abbrev pub is_due : Option Cell → Cell → Bool
is_due None cell = false
is_due (Some due) cell = same_cell due cell

-- of the charges of a day, the number of the one that isn't by the due cell
abbrev pub wrong_among : List Charge → Option Cell → Option ℕ
wrong_among charges due =
    option_map (λ (charge : Charge). charge.number)
    (find (λ (charge : Charge). not (is_due due charge.cell)) charges)

-- the due cell, where none of the charges of a day is by it
abbrev pub missing_among : List Charge → Option Cell → Option Cell
missing_among charges None = None
missing_among charges (Some cell) =
    if list_any (λ (charge : Charge). same_cell cell charge.cell) charges then None else Some cell

nothing_wrong : wrong_among (march_charge ∷ []) (Some march_cell) ≡ None
nothing_wrong = refl

wrong_where_nothing_is_due : wrong_among (march_charge ∷ []) None ≡ Some 3
wrong_where_nothing_is_due = refl

wrong_at_another_plan : wrong_among (march_charge ∷ [])
    (Some (record march_cell { plan = record { version = 0; list = 0; plan = 1 } })) ≡ Some 3
wrong_at_another_plan = refl

missing_without_a_charge : missing_among [] (Some march_cell) ≡ Some march_cell
missing_without_a_charge = refl

-- a repair of some days, and a bill for some days
abbrev pub repair_of : Stretch ℕ → NewItem
repair_of stretch = Repair stretch.value stretch.from stretch.to

abbrev pub bill_of : Stretch Cell → NewItem
bill_of stretch = Bill stretch.from stretch.to stretch.value

-- the repairs: one for each longest run of days with the same wrong charge
unfoldable pub new_repairs : (ℕ → List Charge) → (ℕ → Option Cell) → ℕ → ℕ → List NewItem
new_repairs charges due day count =
    map repair_of (runs nat_eq (λ d. wrong_among (charges d) (due d)) day count)

-- the bills: one for each longest run of days with the same due cell and no charge by it
unfoldable pub new_bills : (ℕ → List Charge) → (ℕ → Option Cell) → ℕ → ℕ → List NewItem
new_bills charges due day count =
    map bill_of (runs same_cell (λ d. missing_among (charges d) (due d)) day count)

-- the items that make the charges of each day those that are due: repairs, then bills
abbrev pub new_items : (ℕ → List Charge) → (ℕ → Option Cell) → ℕ → ℕ → List NewItem
new_items charges due day count = new_repairs charges due day count ++ new_bills charges due day count

-- for examples: March is due from the 10th on, and after a cancellation until the 20th
abbrev pub march_due : ℕ → Option Cell
march_due day = if covers (march 10) (april 1) day then Some march_cell else None

abbrev pub march_cancelled : ℕ → Option Cell
march_cancelled day = if covers (march 10) (march 20) day then Some march_cell else None

first_bill : new_items (charges_on []) march_due (march 3) 35 ≡ Bill (march 10) (april 1) march_cell ∷ []
unfolding new_repairs new_bills runs
first_bill = refl

first_repair : new_items (charges_on (march_bill ∷ [])) march_cancelled (march 3) 35
    ≡ Repair 3 (march 20) (april 1) ∷ []
unfolding new_repairs new_bills runs
first_repair = refl

nothing_new : new_items (charges_on (march_bill ∷ (4, Repair 3 (march 20) (april 1)) ∷ []))
    march_cancelled (march 3) 35
    ≡ []
unfolding new_repairs new_bills runs
nothing_new = refl

billed_again : new_items (charges_on (march_bill ∷ (4, Repair 3 (march 20) (april 1)) ∷ []))
    march_due (march 3) 35
    ≡ Bill (march 20) (april 1) march_cell ∷ []
unfolding new_repairs new_bills runs
billed_again = refl

-- each day has exactly one charge, by the due cell, or none where nothing is due
abbrev pub IsSettled : (ℕ → List Charge) → (ℕ → Option Cell) → ℕ → ℕ → Type 0
IsSettled charges due day count =
    (d : ℕ) → day ≤ d → d < day + count
    → map (λ (charge : Charge). charge.cell) (charges d) ≡ option_to_list (due d)
