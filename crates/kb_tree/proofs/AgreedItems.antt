-- New items, and the charges that they leave, depend on the charges of the window's days alone.
use Rattle.std.proofs.Common.{◌≡◌, ℕ, ◌+◌, ◌<◌, ◌≤◌, nat_eq, List, ◌++◌, length, map, Option, ap, ap₂}
use Rattle.kb_base.specs.Runs.{values_on}
use Rattle.kb_base.proofs.Windows.{runs-same-key}
use Rattle.kb_due.specs.declared.cell.Cell.{Cell}
use Rattle.kb_due.specs.CellStretches.{same_cell}
use Rattle.kb_tree.specs.Items.{Charge}
use Rattle.kb_tree.specs.Repairs.{wrong_among, missing_among, repair_of, bill_of, new_repairs, new_bills}
use Rattle.kb_tree.specs.Repairs.{new_items}
use Rattle.kb_tree.specs.Private.LeftCharges.{charges_but, billed_from, missing_runs, charges_after}

module _ (charges other : ℕ → List Charge) (due : ℕ → Option Cell) (day count : ℕ)
    (agree : (d : ℕ) → day ≤ d → d < day + count → charges d ≡ other d) where
  -- the same charges have the same wrong ones
  repairs-agree : new_repairs charges due day count ≡ new_repairs other due day count
  unfolding new_repairs
  repairs-agree =
      ap (map repair_of)
      (runs-same-key nat_eq (λ d. wrong_among (charges d) (due d)) (λ d. wrong_among (other d) (due d)) day
      count
      (λ d low high. ap (λ all. wrong_among all (due d)) (agree d low high)))

  -- and the same missing ones
  missing-agree : missing_runs charges due day count ≡ missing_runs other due day count
  missing-agree =
      runs-same-key same_cell (λ d. missing_among (charges d) (due d)) (λ d. missing_among (other d) (due d))
      day count
      (λ d low high. ap (λ all. missing_among all (due d)) (agree d low high))

  -- so they want the same new items
  pub new_items-agree : new_items charges due day count ≡ new_items other due day count
  unfolding new_bills
  new_items-agree = ap₂ (λ a b. a ++ b) repairs-agree (ap (map bill_of) missing-agree)

  -- and leave the same charges on a day of the window
  pub charges_after-agree : (first d : ℕ) → day ≤ d → d < day + count
      → charges_after charges due day count first d ≡ charges_after other due day count first d
  charges_after-agree first d low high =
      ap₂ (λ a b. a ++ b) (ap (λ all. charges_but (wrong_among all (due d)) all) (agree d low high))
      (ap₂ (λ repairs bills. values_on d (billed_from (first + length repairs) bills)) repairs-agree
      missing-agree)
