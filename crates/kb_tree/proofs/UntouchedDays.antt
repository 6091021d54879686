-- No new item has a day outside the window, or one whose due cell stays.
use Rattle.std.proofs.Common.{◌≡◌, ℕ, ◌+◌, ◌<◌, ◌≤◌, ◌⊎◌, inl, inr, Bool, true, false, nat_eq, ◌||◌, List, []}
use Rattle.std.proofs.Common.{◌∷◌, map, Option, option_to_list, ap, ap₂, ◌∙◌, refl}
use Rattle.std.specs.List.{list_any}
use Rattle.std.proofs.lemmas.List.Folds.{list_any-append}
use Rattle.kb_base.specs.Runs.{Stretch, runs, values_on, has_day}
use Rattle.kb_base.proofs.Covered.{runs-cover, runs-before, runs-after, nat_eq-same}
use Rattle.kb_due.specs.declared.cell.Cell.{Cell}
use Rattle.kb_due.specs.CellStretches.{same_cell}
use Rattle.kb_due.proofs.SameCells.{same_cell-same}
use Rattle.kb_tree.specs.declared.item.NewItem.{NewItem}
use Rattle.kb_tree.specs.Items.{Charge, item_has_day}
use Rattle.kb_tree.specs.Repairs.{wrong_among, missing_among, repair_of, bill_of, new_repairs, new_bills}
use Rattle.kb_tree.specs.Repairs.{new_items, IsSettled}
use Rattle.kb_tree.proofs.OneCharge.{wrong-same, missing-same}

module _ {V : Type 0} (item_of : Stretch V → NewItem) (d : ℕ)
    (has : (stretch : Stretch V) → item_has_day d (item_of stretch) ≡ has_day d stretch) where
  -- where no stretch has a value on a day, none of its items has the day
  no-item : (stretches : List (Stretch V)) → values_on d stretches ≡ []
      → list_any (item_has_day d) (map item_of stretches) ≡ false
  no-item [] e = refl
  no-item (stretch ∷ later) e = by_test (has_day d stretch) refl (no-item later)
    where
      by_test : (there : Bool) → has_day d stretch ≡ there
          → (values_on d later ≡ [] → list_any (item_has_day d) (map item_of later) ≡ false)
          → list_any (item_has_day d) (map item_of (stretch ∷ later)) ≡ false
      by_test true here rest = absurd (let taken = rw here at e in cc)
      by_test false here rest = ap₂ (λ a b. a || b) (has stretch ∙ here) (rest (rw here at e))

module _ (charges : ℕ → List Charge) (due : ℕ → Option Cell) (day count d : ℕ) where
  -- the number of a day's wrong charge, and a day's missing cell
  abbrev wrong : ℕ → Option ℕ
  wrong on = wrong_among (charges on) (due on)

  abbrev missing : ℕ → Option Cell
  missing on = missing_among (charges on) (due on)

  -- where the runs of wrong charges and of missing cells have no value on a day, no new item has the day
  no-new_item : values_on d (runs nat_eq wrong day count) ≡ []
      → values_on d (runs same_cell missing day count) ≡ []
      → list_any (item_has_day d) (new_items charges due day count) ≡ false
  unfolding new_repairs new_bills
  no-new_item no_wrong no_missing =
      list_any-append (item_has_day d) (map repair_of (runs nat_eq wrong day count))
      (map bill_of (runs same_cell missing day count))
      ∙ ap₂ (λ a b. a || b)
      (no-item repair_of d (λ stretch. refl) (runs nat_eq wrong day count) no_wrong)
      (no-item bill_of d (λ stretch. refl) (runs same_cell missing day count) no_missing)

  -- no new item has a day outside the window
  pub untouched_outside : (d < day) ⊎ (day + count ≤ d)
      → list_any (item_has_day d) (new_items charges due day count) ≡ false
  untouched_outside (inl before) =
      no-new_item (runs-before nat_eq wrong day count d before)
      (runs-before same_cell missing day count d before)
  untouched_outside (inr after) =
      no-new_item (runs-after nat_eq wrong day count d after) (runs-after same_cell missing day count d after)

-- no new item has a day whose due cell stays
pub untouched : (charges : ℕ → List Charge) (old due : ℕ → Option Cell) (day count : ℕ)
    → IsSettled charges old day count
    → (d : ℕ) → day ≤ d → d < day + count → old d ≡ due d
    → list_any (item_has_day d) (new_items charges due day count) ≡ false
untouched charges old due day count is d low high same =
    let charged = is d low high ∙ ap option_to_list same in
    no-new_item charges due day count d
    (runs-cover nat_eq nat_eq-same (λ on. wrong_among (charges on) (due on)) day count d low high
    ∙ ap option_to_list (wrong-same (charges d) (due d) charged))
    (runs-cover same_cell same_cell-same (λ on. missing_among (charges on) (due on)) day count d low high
    ∙ ap option_to_list (missing-same (charges d) (due d) charged))
