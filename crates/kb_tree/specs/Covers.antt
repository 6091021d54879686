-- Covers: what each day is charged by, and the cells of all bills so far.
use Rattle.std.specs.Prelude.{ℕ, ◌≡◌, ◌<◌, ◌≤◌, List, [], ◌∷◌, All, Option, Some, IsSome, slice_get, refl}
use Rattle.std.specs.FinMap as map
use Rattle.kb_base.specs.Runs.{Stretch, values_on}
use Rattle.kb_days.specs.Calendar.{first_day, end_of_days}
use Rattle.kb_sharing.specs.Keys.{SharedEntries}
use Rattle.kb_days.specs.Dates.{march, april}
use Rattle.kb_due.specs.declared.cell.Cell.{Cell}
use Rattle.kb_due.specs.CellStretches.{IsInCell}
use Rattle.kb_tree.specs.declared.item.NewItem.TheVariants.{Bill, Repair}
use Rattle.kb_tree.specs.Items.{Charge, Numbered, charges_on, cell_at, march_cell}

-- a cover: the stretches of days that have a charge, and of each item that is a bill, repaired or not, its
-- cell
pub record CoverValue : Type 0 where
  pub live : List (Stretch Charge)
  pub cells : SharedEntries Cell

-- no charge and no bill
abbrev pub no_cover : CoverValue
no_cover = record { live = []; cells = map.empty }

-- the charges of a day
abbrev pub charges : CoverValue → ℕ → List Charge
charges cover day = values_on day cover.live

-- the cell of the item of this number, if it is a bill
abbrev pub cell_in : CoverValue → ℕ → Option Cell
cell_in cover number = map.get cover.cells (number ∷ [])

-- the due cell of a day, as pieces tell it: that of the piece which has the day
abbrev pub due_in : List (Stretch Cell) → ℕ → Option Cell
due_in pieces day = slice_get (values_on day pieces) 0

due_on_the_20th : due_in (record { from = march 10; to = april 1; value = march_cell } ∷ []) (march 20)
    ≡ Some march_cell
due_on_the_20th = refl

-- stretches in the order of their days, none with a day of another, from a day on up to, but not including,
-- another
abbrev pub AreInOrder : {V : Type 0} → ℕ → ℕ → List (Stretch V) → Type 0
AreInOrder from end [] = from ≤ end
AreInOrder from end (stretch ∷ later) =
    (from ≤ stretch.from) × (stretch.from < stretch.to) × AreInOrder stretch.to end later

-- pieces that a cover may be made right by: in order, among the days that may be charged, each inside the
-- period of its cell
abbrev pub ArePieces : List (Stretch Cell) → Type 0
ArePieces pieces = AreInOrder first_day end_of_days pieces × All IsInCell pieces

-- the days with a charge, as days with a cell
abbrev pub charged_cell : Stretch Charge → Stretch Cell
charged_cell stretch = record { from = stretch.from; to = stretch.to; value = stretch.value.cell }

-- what always holds of a cover: no day has two charges, each day that has one is a day of its cell's period,
-- and its item is known with that cell
pub record IsCover (cover : CoverValue) : Type 0 where
  pub in_order : AreInOrder first_day end_of_days cover.live
  pub in_cells : All (λ stretch. IsInCell (charged_cell stretch)) cover.live
  pub known : All (λ (stretch : Stretch Charge). cell_in cover stretch.value.number
      ≡ Some stretch.value.cell) cover.live

-- a number is above those of all bills of a cover
abbrev pub IsAbove : ℕ → CoverValue → Type 0
IsAbove first cover = (number : ℕ) → IsSome (cell_in cover number) → number < first

-- a cover is that of some items: it charges what they charge, and knows their cells
pub record IsCoverOf (cover : CoverValue) (items : List Numbered) : Type 0 where
  pub charged : (day : ℕ) → charges cover day ≡ charges_on items day
  pub celled : (number : ℕ) → cell_in cover number ≡ cell_at items number

-- the number that an item has, or repairs, is below another
abbrev pub IsBelow : ℕ → Numbered → Type 0
IsBelow first (number, Bill from to cell) = number < first
IsBelow first (number, Repair of from to) = (number < first) × (of < first)
