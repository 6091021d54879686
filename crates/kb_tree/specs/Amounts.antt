-- What items of a cover amount to, in minor units.
use Rattle.std.specs.Prelude.{ℕ, ◌-◌, ◌≡◌, ◌<◌, List, [], ◌∷◌, sum_by, Option, Some, None, IsSomeAnd, ℤ, pos}
use Rattle.std.specs.Prelude.{neg_ℤ, refl}
use Rattle.std.specs.List.{range_with_len}
use Rattle.kb_days.specs.Dates.{march, april}
use Rattle.kb_money.specs.Proration.{share}
use Rattle.kb_sharing.specs.Sums.{sum_of}
use Rattle.kb_due.specs.declared.cell.Cell.{Cell}
use Rattle.kb_due.specs.CellStretches.{IsInCell}
use Rattle.kb_tree.specs.declared.item.NewItem.{NewItem}
use Rattle.kb_tree.specs.declared.item.NewItem.TheVariants.{Bill, Repair}
use Rattle.kb_tree.specs.Items.{march_cell, march_bill, cell_at}
use Rattle.kb_tree.specs.Repairs.{march_due, march_cancelled}

-- what a cell costs on one of its days: that day's share of the price
abbrev pub day_cost : Cell → ℕ → ℕ
day_cost cell day = share cell.price (cell.end - cell.start) (day - cell.start)

-- what a cell costs from one day up to, but not including, another: the sum of these days' shares
unfoldable pub days_cost : Cell → ℕ → ℕ → ℕ
days_cost cell from to = sum_by (day_cost cell) (range_with_len from (to - from))

-- what some days cost by a cell, if there is one
abbrev pub cost_if : Option Cell → ℕ → ℕ → ℕ
cost_if None from to = 0
cost_if (Some cell) from to = days_cost cell from to

-- an item's amount: of a bill what its days cost, of a repair the negative of what they cost by the cell of
-- the item repaired
abbrev pub amount : (ℕ → Option Cell) → NewItem → ℤ
amount cells (Bill from to cell) = pos (days_cost cell from to)
amount cells (Repair of from to) = neg_ℤ (pos (cost_if (cells of) from to))

-- what items amount to
abbrev pub total : (ℕ → Option Cell) → List NewItem → ℤ
total cells items = sum_of (amount cells) items

bill_total : total (cell_at []) (Bill (march 10) (april 1) march_cell ∷ []) ≡ pos 710
unfolding days_cost
bill_total = refl

repair_total : total (cell_at (march_bill ∷ [])) (Repair 3 (march 20) (april 1) ∷ []) ≡ neg_ℤ (pos 387)
unfolding days_cost
repair_total = refl

-- what a day costs by a due cell, or nothing
abbrev pub due_cost : Option Cell → ℕ → ℕ
due_cost None day = 0
due_cost (Some cell) day = day_cost cell day

-- what all days cost: the sum of the shares of their due cells
unfoldable pub charged : (ℕ → Option Cell) → ℕ → ℕ → ℕ
charged due day count = sum_by (λ d. due_cost (due d) d) (range_with_len day count)

march_charged : charged march_due (march 3) 35 ≡ 710
unfolding charged
march_charged = refl

cancelled_charged : charged march_cancelled (march 3) 35 ≡ 323
unfolding charged
cancelled_charged = refl

-- an item has days, and they lie inside the period of the cell by which it is priced: of a bill its own, of a
-- repair that of the item repaired
abbrev pub IsPriced : (ℕ → Option Cell) → NewItem → Type 0
IsPriced cells (Bill from to cell) = (from < to) × IsInCell (record { from = from; to = to; value = cell })
IsPriced cells (Repair of from to) =
    (from < to) × IsSomeAnd (cells of) (λ cell. IsInCell (record { from = from; to = to; value = cell }))
