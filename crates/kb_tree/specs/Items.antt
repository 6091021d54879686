-- The items of a cover, each with its number: bills, and repairs that take a bill off some of its days.
use Rattle.std.specs.Prelude.{ℕ, ◌+◌, ◌≡◌, Bool, false, not, ◌&&◌, ◌==◌, nat_le, nat_lt}
use Rattle.std.specs.Prelude.{if◌then◌else◌, List, [], ◌∷◌, Option, Some, None, refl}
use Rattle.std.specs.List.{list_any, flat_map}
use Rattle.kb_days.specs.Dates.{march, april}
use Rattle.kb_due.specs.declared.cell.Cell.{Cell}
use Rattle.kb_tree.specs.declared.item.NewItem.{NewItem}
use Rattle.kb_tree.specs.declared.item.NewItem.TheVariants.{Bill, Repair}

-- an item and its number
abbrev pub Numbered : Type 0
Numbered = ℕ × NewItem

-- the days from one up to, but not including, another have this day
abbrev pub covers : ℕ → ℕ → ℕ → Bool
covers from to day = nat_le from day && nat_lt day to

-- an item repairs the item of this number on this day
abbrev pub repairs : ℕ → ℕ → NewItem → Bool
repairs number day (Bill from to cell) = false
repairs number day (Repair of from to) = (of == number) && covers from to day

-- some item repairs the item of this number on this day
abbrev pub is_repaired : List Numbered → ℕ → ℕ → Bool
is_repaired items number day = list_any (λ (item : Numbered). repairs number day item.1) items

-- for examples: March 2024, billed by item 3 from the 10th to its end
abbrev pub march_cell : Cell
march_cell = record {
  plan = record { version = 0; list = 0; plan = 0 };
  phase = 0;
  start = march 1;
  end = april 1;
  price = 1000;
}

abbrev pub march_bill : Numbered
march_bill = (3, Bill (march 10) (april 1) march_cell)

-- a charge of a day: a bill's number, and the cell by which it charges
pub record Charge : Type 0 where
  pub number : ℕ
  pub cell : Cell

abbrev pub march_charge : Charge
march_charge = record { number = 3; cell = march_cell }

-- what the item of this number charges a day: nothing, where one of the items repairs it there
abbrev pub charge_of : List Numbered → ℕ → ℕ → NewItem → List Charge
charge_of items day number (Bill from to cell) =
    if covers from to day && not (is_repaired items number day)
    then record { number = number; cell = cell } ∷ [] else []
charge_of items day number (Repair of from to) = []

-- the charges of a day: the bills that cover it, without those that a repair of that very item takes off it
abbrev pub charges_on : List Numbered → ℕ → List Charge
charges_on items day = flat_map (λ (item : Numbered). charge_of items day item.0 item.1) items

charge_on_the_19th : charges_on (march_bill ∷ []) (march 19) ≡ march_charge ∷ []
charge_on_the_19th = refl

charge_taken_off : charges_on (march_bill ∷ (4, Repair 3 (march 20) (april 1)) ∷ []) (march 20) ≡ []
charge_taken_off = refl

another_item_repaired : charges_on (march_bill ∷ (4, Repair 2 (march 20) (april 1)) ∷ []) (march 20)
    ≡ march_charge ∷ []
another_item_repaired = refl

-- items with the numbers from one on
abbrev pub numbered : ℕ → List NewItem → List Numbered
numbered first [] = []
numbered first (item ∷ later) = (first, item) ∷ numbered (first + 1) later

-- the cell of a bill
abbrev pub item_cell : NewItem → Option Cell
item_cell (Bill from to cell) = Some cell
item_cell (Repair of from to) = None

-- the cell of the item of this number, if it is a bill
abbrev pub cell_at : List Numbered → ℕ → Option Cell
cell_at [] number = None
cell_at (item ∷ later) number = if item.0 == number then item_cell item.1 else cell_at later number

cell_of_item_3 : cell_at (march_bill ∷ (4, Repair 3 (march 20) (april 1)) ∷ []) 3 ≡ Some march_cell
cell_of_item_3 = refl

cell_of_a_repair : cell_at (march_bill ∷ (4, Repair 3 (march 20) (april 1)) ∷ []) 4 ≡ None
cell_of_a_repair = refl

-- an item has this day
abbrev pub item_has_day : ℕ → NewItem → Bool
item_has_day day (Bill from to cell) = covers from to day
item_has_day day (Repair of from to) = covers from to day
