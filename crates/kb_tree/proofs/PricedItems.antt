-- The days of the new items lie in the periods of the cells by which they are priced.
use Rattle.std.proofs.Common.{◌≡◌, ℕ, ◌+◌, ◌-◌, ◌<◌, ◌≤◌, Bool, true, false, cond, nat_eq, List, map, Option}
use Rattle.std.proofs.Common.{Some, None, IsSomeAnd, All, sym, ap, ◌∙◌, arith}
use Rattle.std.specs.List.{list_any}
use Rattle.std.proofs.lemmas.Option.{none-some}
use Rattle.std.proofs.lemmas.List.Elements.{All-append, All-map, All-weaker}
use Rattle.kb_base.specs.Runs.{Stretch, runs, IsStretch}
use Rattle.kb_base.proofs.Covered.{each-run, nat_eq-same}
use Rattle.kb_due.specs.declared.cell.Cell.{Cell}
use Rattle.kb_due.specs.CellStretches.{same_cell, IsInCell}
use Rattle.kb_due.proofs.SameCells.{same_cell-same}
use Rattle.kb_tree.specs.Items.{Charge}
use Rattle.kb_tree.specs.Repairs.{wrong_among, missing_among, repair_of, bill_of, new_repairs, new_bills}
use Rattle.kb_tree.specs.Repairs.{new_items}
use Rattle.kb_tree.specs.Amounts.{IsPriced}
use Rattle.kb_tree.proofs.WrongCharges.{wrong_among-holds}

-- a missing cell is the due one
pub missing_among-due : (charges : List Charge) (due : Option Cell) (cell : Cell)
    → missing_among charges due ≡ Some cell → due ≡ Some cell
missing_among-due charges None cell e = absurd (none-some cell e)
missing_among-due charges (Some other) cell e =
    by_test (list_any (λ (charge : Charge). same_cell other charge.cell) charges) e
  where
    by_test : (charged : Bool) → cond charged None (Some other) ≡ Some cell → Some other ≡ Some cell
    by_test true is = absurd (none-some cell is)
    by_test false is = is

-- days lie in the period of a cell, where the first of them and the last one do
abbrev day_of : ℕ → Cell → Stretch Cell
day_of d cell = record { from = d; to = d + 1; value = cell }

both-ends : (cell : Cell) (from to : ℕ) → from < to → IsInCell (day_of from cell)
    → IsInCell (day_of (to - 1) cell) → IsInCell (record { from = from; to = to; value = cell })
both-ends cell from to some first last = (first.0, omega (arith, last.1), first.2)

-- two facts of what an option has give a third
both : {A : Type 0} (option : Option A) (P Q R : A → Type 0) → ((a : A) → P a → Q a → R a)
    → IsSomeAnd option P → IsSomeAnd option Q → IsSomeAnd option R
both None P Q R gives p q = p
both (Some a) P Q R gives p q = gives a p q

module _ (cells : ℕ → Option Cell) (charges : ℕ → List Charge) (due : ℕ → Option Cell) (day count : ℕ) where
  -- the number of a day's wrong charge, and a day's missing cell
  abbrev wrong : ℕ → Option ℕ
  wrong d = wrong_among (charges d) (due d)

  abbrev missing : ℕ → Option Cell
  missing d = missing_among (charges d) (due d)

  module _ (known : (d : ℕ) → day ≤ d → d < day + count
      → All (λ (charge : Charge). cells charge.number ≡ Some charge.cell) (charges d))
      (inside : (d : ℕ) → day ≤ d → d < day + count
      → All (λ (charge : Charge). IsInCell (record { from = d; to = d + 1; value = charge.cell }))
      (charges d))
    where
      -- the day of a wrong charge lies in the charge's cell
      wrong-day : (d number : ℕ) → day ≤ d → d < day + count → wrong d ≡ Some number
          → IsSomeAnd (cells number) (λ cell. IsInCell (day_of d cell))
      wrong-day d number low high e =
          let found = wrong_among-holds
          (λ (charge : Charge). (cells charge.number ≡ Some charge.cell) × IsInCell (day_of d charge.cell))
          (charges d) (due d) number
          (λ place default within. (
            known d low high place default within,
            inside d low high place default within,
          )) e in
          let at : cells number ≡ Some found.0.cell = ap cells (sym found.1) ∙ found.2.0 in
          rw at found.2.1

      -- the days of a run of a wrong charge lie in the charge's cell
      repair-priced : (stretch : Stretch ℕ) → IsStretch wrong day (day + count) stretch
          → IsPriced cells (repair_of stretch)
      repair-priced stretch is =
          let begins = is.begins in
          let some = is.some_day in
          let ends = is.ends in
          let last = stretch.to - 1 in (
            some,
            both (cells stretch.value) (λ cell. IsInCell (day_of stretch.from cell))
                (λ cell. IsInCell (day_of last cell))
                (λ cell. IsInCell (record { from = stretch.from; to = stretch.to; value = cell }))
                (λ cell first final. both-ends cell stretch.from stretch.to some first final)
                (wrong-day stretch.from stretch.value begins (omega arith)
                (is.valued stretch.from (omega arith) some))
                (wrong-day last stretch.value (omega arith) (omega arith)
                (is.valued last (omega arith) (omega arith))),
          )

  module _ (within : (d : ℕ) (cell : Cell) → day ≤ d → d < day + count → due d ≡ Some cell
      → IsInCell (record { from = d; to = d + 1; value = cell })) where
    -- the days of a run of a missing cell lie in it
    bill-priced : (stretch : Stretch Cell) → IsStretch missing day (day + count) stretch
        → IsPriced cells (bill_of stretch)
    bill-priced stretch is =
        let begins = is.begins in
        let some = is.some_day in
        let ends = is.ends in
        let on_day : (d : ℕ) → stretch.from ≤ d → d < stretch.to → IsInCell (day_of d stretch.value)
        = λ d low high. within d stretch.value (omega arith) (omega arith)
        (missing_among-due (charges d) (due d) stretch.value (is.valued d low high)) in (
          some,
          both-ends stretch.value stretch.from stretch.to some
              (on_day stretch.from (omega arith) some) (on_day (stretch.to - 1) (omega arith) (omega arith)),
        )

-- each new item has days, and they lie in the period of the cell by which it is priced
pub priced : (cells : ℕ → Option Cell) (charges : ℕ → List Charge) (due : ℕ → Option Cell) (day count : ℕ)
    → ((d : ℕ) → day ≤ d → d < day + count
    → All (λ (charge : Charge). cells charge.number ≡ Some charge.cell) (charges d))
    → ((d : ℕ) → day ≤ d → d < day + count
    → All (λ (charge : Charge). IsInCell (record { from = d; to = d + 1; value = charge.cell })) (charges d))
    → ((d : ℕ) (cell : Cell) → day ≤ d → d < day + count → due d ≡ Some cell
    → IsInCell (record { from = d; to = d + 1; value = cell }))
    → All (IsPriced cells) (new_items charges due day count)
unfolding new_repairs new_bills
priced cells charges due day count known inside within =
    let taken = λ (d : ℕ). wrong_among (charges d) (due d) in
    let added = λ (d : ℕ). missing_among (charges d) (due d) in
    let repaired = runs nat_eq taken day count in
    let billed = runs same_cell added day count in
    All-append (IsPriced cells) (map repair_of repaired) (map bill_of billed)
    (All-map (IsPriced cells) repair_of repaired
    (All-weaker (IsStretch taken day (day + count)) (λ stretch. IsPriced cells (repair_of stretch))
    (repair-priced cells charges due day count known inside) repaired
    (each-run nat_eq nat_eq-same taken day count)))
    (All-map (IsPriced cells) bill_of billed
    (All-weaker (IsStretch added day (day + count)) (λ stretch. IsPriced cells (bill_of stretch))
    (bill-priced cells charges due day count within) billed
    (each-run same_cell same_cell-same added day count)))
