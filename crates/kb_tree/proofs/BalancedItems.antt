-- The new items amount to what is charged after them less what was charged before.
use Rattle.std.proofs.Common.{◌≡◌, ℕ, ◌+◌, ◌-◌, ◌<◌, ◌≤◌, Bool, true, false, nat_eq, List, [], ◌∷◌, map, All}
use Rattle.std.proofs.Common.{sum_by, Option, Some, None, option_to_list, pos, neg_ℤ, ◌+ℤ◌, refl, sym, ap}
use Rattle.std.proofs.Common.{arith, subst}
use Rattle.std.specs.List.{range_with_len}
use Rattle.std.proofs.lemmas.Int.{ints}
use Rattle.std.proofs.lemmas.List.Sums.{sum_by-cons}
use Rattle.std.proofs.lemmas.List.Elements.{All-head}
use Rattle.kb_base.specs.Runs.{Stretch, runs, weight_of}
use Rattle.kb_base.proofs.Summed.{sum_by-plus, sum_by-range-same, sum_by-range-none, sum-runs}
use Rattle.kb_base.proofs.Covered.{nat_eq-same}
use Rattle.kb_sharing.proofs.MemberSums.{sum_of-append}
use Rattle.kb_due.specs.declared.cell.Cell.{Cell}
use Rattle.kb_due.specs.CellStretches.{same_cell}
use Rattle.kb_due.proofs.SameCells.{same_cell-same}
use Rattle.kb_tree.specs.Items.{Charge}
use Rattle.kb_tree.specs.Repairs.{wrong_among, missing_among, repair_of, bill_of, new_repairs, new_bills}
use Rattle.kb_tree.specs.Repairs.{new_items, IsSettled}
use Rattle.kb_tree.specs.Amounts.{day_cost, days_cost, cost_if, amount, total, due_cost, charged}
use Rattle.kb_tree.proofs.OneCharge.{no-charge, one-charge}

-- what some days cost by a cell, if there is one, is what each of them costs by it
cost_if-sum : (cell : Option Cell) (from to : ℕ)
    → cost_if cell from to ≡ sum_by (due_cost cell) (range_with_len from (to - from))
unfolding days_cost
cost_if-sum None from to = sym (sum_by-range-none (due_cost None) from (to - from) (λ d low high. refl))
cost_if-sum (Some cell) from to = refl

-- what the days of a stretch cost by a cost of its value
abbrev stretch_cost : {V : Type 0} → (V → ℕ → ℕ) → Stretch V → ℕ
stretch_cost cost stretch =
    sum_by (cost stretch.value) (range_with_len stretch.from (stretch.to - stretch.from))

module _ (cells : ℕ → Option Cell) where
  -- what the item of a number costs on a day
  abbrev number_cost : ℕ → ℕ → ℕ
  number_cost number day = due_cost (cells number) day

  -- repairs by stretches take off what their days cost
  total-repairs : (stretches : List (Stretch ℕ))
      → total cells (map repair_of stretches) ≡ neg_ℤ (pos (sum_by (stretch_cost number_cost) stretches))
  total-repairs [] = refl
  total-repairs (stretch ∷ later) =
      let cost = cost_if-sum (cells stretch.value) stretch.from stretch.to in
      let sums = sum_by-cons (stretch_cost number_cost) stretch later in
      let rest = total-repairs later in
      omega (arith, ints)

  -- bills by stretches charge what their days cost
  total-bills : (stretches : List (Stretch Cell))
      → total cells (map bill_of stretches) ≡ pos (sum_by (stretch_cost day_cost) stretches)
  unfolding days_cost
  total-bills [] = refl
  total-bills (stretch ∷ later) =
      let sums = sum_by-cons (stretch_cost day_cost) stretch later in
      let rest = total-bills later in
      omega (arith, ints)

  -- what of the due charge is missing on a day, and what is wrong
  abbrev missing_cost : List Charge → Option Cell → ℕ → ℕ
  missing_cost charges due d = weight_of day_cost (missing_among charges due) d

  abbrev wrong_cost : List Charge → Option Cell → ℕ → ℕ
  wrong_cost charges due d = weight_of number_cost (wrong_among charges due) d

  -- a day without a charge: what is missing is what is due
  none-balanced : (due : Option Cell) (d : ℕ)
      → missing_cost [] due d + 0 ≡ due_cost due d + wrong_cost [] due d
  none-balanced None d = refl
  none-balanced (Some due) d = refl

  -- a day with one charge: what is missing and was charged is what is due and what is wrong
  one-balanced : (charge : Charge) (due : Option Cell) (d : ℕ) → cells charge.number ≡ Some charge.cell
      → missing_cost (charge ∷ []) due d + day_cost charge.cell d
      ≡ due_cost due d + wrong_cost (charge ∷ []) due d
  one-balanced charge None d at = rw at
  one-balanced charge (Some due) d at = by_test (same_cell due charge.cell) refl
    where
      by_test : (same : Bool) → same_cell due charge.cell ≡ same
          → missing_cost (charge ∷ []) (Some due) d + day_cost charge.cell d
          ≡ day_cost due d + wrong_cost (charge ∷ []) (Some due) d
      by_test true here =
          let same = ap (λ c. day_cost c d) (same_cell-same.sound due charge.cell here) in
          rw here (omega arith)
      by_test false here = rw (here, at)

  -- on a settled day, what is missing and was charged is what is due and what is wrong
  day-balanced : (charges : List Charge) (old due : Option Cell) (d : ℕ)
      → map (λ (charge : Charge). charge.cell) charges ≡ option_to_list old
      → All (λ (charge : Charge). cells charge.number ≡ Some charge.cell) charges
      → missing_cost charges due d + due_cost old d ≡ due_cost due d + wrong_cost charges due d
  day-balanced charges None due d e known = rw (no-charge charges e) (none-balanced due d)
  day-balanced charges (Some cell) due d e known =
      let one = one-charge charges cell e in
      let charge : Charge = record { number = one.0; cell = cell } in
      let all : All (λ (c : Charge). cells c.number ≡ Some c.cell) (charge ∷ [])
      = subst (All (λ (c : Charge). cells c.number ≡ Some c.cell)) one.1 known in
      rw one.1 (one-balanced charge due d
      (All-head (λ (c : Charge). cells c.number ≡ Some c.cell) charge [] all))

-- the new items amount to what is charged after them less what was charged before
pub balanced : (cells : ℕ → Option Cell) (charges : ℕ → List Charge) (old due : ℕ → Option Cell)
    (day count : ℕ) → IsSettled charges old day count
    → ((d : ℕ) → day ≤ d → d < day + count
    → All (λ (charge : Charge). cells charge.number ≡ Some charge.cell) (charges d))
    → total cells (new_items charges due day count) +ℤ pos (charged old day count)
    ≡ pos (charged due day count)
unfolding new_repairs new_bills charged
balanced cells charges old due day count is known =
    let wrong = λ (d : ℕ). wrong_among (charges d) (due d) in
    let missing = λ (d : ℕ). missing_among (charges d) (due d) in
    let missing_weight = λ (d : ℕ). weight_of day_cost (missing d) d in
    let wrong_weight = λ (d : ℕ). weight_of (number_cost cells) (wrong d) d in
    let old_cost = λ (d : ℕ). due_cost (old d) d in
    let new_cost = λ (d : ℕ). due_cost (due d) d in
    let repaired = runs nat_eq wrong day count in
    let billed = runs same_cell missing day count in
    let days = range_with_len day count in
    let parts = sum_of-append (amount cells) (map repair_of repaired) (map bill_of billed) in
    let repairs = total-repairs cells repaired in
    let bills = total-bills cells billed in
    let taken = sum-runs nat_eq nat_eq-same wrong (number_cost cells) day count in
    let added = sum-runs same_cell same_cell-same missing day_cost day count in
    let left = sum_by-plus missing_weight old_cost days in
    let right = sum_by-plus new_cost wrong_weight days in
    let same = sum_by-range-same (λ d. missing_weight d + old_cost d) (λ d. new_cost d + wrong_weight d)
    day count (λ d low high. day-balanced cells (charges d) (old d) (due d) d (is d low high)
    (known d low high)) in
    omega (arith, ints)
