-- A cover once it is made right.
use Rattle.std.specs.Prelude.{ℕ, ◌+◌, ◌≡◌, ◌<◌, ◌≤◌, List, [], ◌∷◌, length, nat_eq, Option, Some, None, refl}
use Rattle.std.specs.FinMap as map
use Rattle.std.specs.Global.{Global}
use Rattle.std.specs.declared.sync.Arc.{Arc}
use Rattle.std.specs.Arc.{arc_value}
use Rattle.kb_base.specs.Runs.{Stretch, runs}
use Rattle.kb_days.specs.Calendar.{first_day, end_of_days, charged_days}
use Rattle.kb_days.specs.Dates.{march, april}
use Rattle.kb_sharing.specs.Keys.{SharedEntries}
use Rattle.kb_due.specs.declared.cell.Cell.{Cell}
use Rattle.kb_tree.specs.Items.{Charge, march_cell, march_charge}
use Rattle.kb_tree.specs.Repairs.{wrong_among, new_repairs}
use Rattle.kb_tree.specs.Covers.{CoverValue, charges}
use Rattle.kb_tree.specs.Private.LeftCharges.{billed_from, missing_runs, charges_after}
use Rattle.kb_tree.specs.Private.Walks.{same_charge, charge_on}

-- the stretches of a shared list, or none
abbrev pub live_in : Option (Arc (List (Stretch Charge)) Global) → List (Stretch Charge)
live_in None = []
live_in (Some live) = arc_value live

-- cells, with those of bills by their numbers
abbrev pub with_cells : SharedEntries Cell → List (Stretch Charge) → SharedEntries Cell
with_cells cells [] = cells
with_cells cells (bill ∷ later) =
    with_cells (map.insert cells (bill.value.number ∷ []) bill.value.cell) later

a_cell_more : with_cells map.empty (record { from = march 10; to = april 1; value = march_charge } ∷ [])
    ≡ map.insert map.empty (3 ∷ []) march_cell
a_cell_more = refl

-- the bills that make the charges of a cover those that are due, with their numbers
abbrev pub new_charges : CoverValue → (ℕ → Option Cell) → ℕ → List (Stretch Charge)
new_charges cover due first =
    billed_from (first + length (new_repairs (charges cover) due first_day charged_days))
    (missing_runs (charges cover) due first_day charged_days)

-- a cover is another one made right, by new items with the numbers from one on
pub record IsCoverAfter (old : CoverValue) (due : ℕ → Option Cell) (first : ℕ)
    (new : CoverValue) : Type 0 where
  pub charged : (d : ℕ) → first_day ≤ d → d < end_of_days
      → charges new d ≡ charges_after (charges old) due first_day charged_days first d
  pub celled : new.cells ≡ with_cells old.cells (new_charges old due first)

-- a cover made right: its stretches are the runs of what is left and billed on each day
abbrev pub cover_after : CoverValue → (ℕ → Option Cell) → ℕ → CoverValue
cover_after old due first = record {
  live = runs same_charge (charge_on old.live
      (runs nat_eq (λ d. wrong_among (charges old d) (due d)) first_day charged_days)
      (new_charges old due first)) first_day charged_days;
  cells = with_cells old.cells (new_charges old due first);
}
