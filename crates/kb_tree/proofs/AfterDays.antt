-- The charge of a day once changes are made, as the definitions tell it.
use Rattle.std.proofs.Common.{◌≡◌, ℕ, ◌+◌, ◌<◌, ◌≤◌, ◌⊎◌, inl, inr, Bool, true, false, nat_eq, List, [], ◌∷◌}
use Rattle.std.proofs.Common.{◌++◌, Option, Some, None, option_to_list, slice_get, refl, sym, ap, ◌∙◌, subst}
use Rattle.std.proofs.lemmas.Bool.{cases_lt, eq-eqb}
use Rattle.kb_base.specs.Runs.{Stretch, values_on, runs}
use Rattle.kb_base.proofs.Covered.{runs-cover, nat_eq-same}
use Rattle.kb_days.specs.Calendar.{first_day, end_of_days, charged_days}
use Rattle.kb_due.specs.declared.cell.Cell.{Cell}
use Rattle.kb_due.specs.CellStretches.{same_cell}
use Rattle.kb_due.proofs.SameCells.{same_cell-same}
use Rattle.kb_tree.specs.Items.{Charge}
use Rattle.kb_tree.specs.Repairs.{wrong_among, missing_among}
use Rattle.kb_tree.specs.Private.LeftCharges.{charges_but, billed_from, missing_runs}
use Rattle.kb_tree.specs.Private.Walks.{value_in, charge_after, charge_on}
use Rattle.kb_tree.proofs.InOrder.{values_on-here, values_on-later, values_on-past}
use Rattle.kb_tree.proofs.OneCharge.{cells_of, no-charge, one-charge}
use Rattle.kb_tree.proofs.WalkedDays.{get-one}

-- bills charge by their stretches' cells
pub values_on-billed : (d number : ℕ) (bills : List (Stretch Cell))
    → cells_of (values_on d (billed_from number bills)) ≡ values_on d bills
values_on-billed d number [] = refl
values_on-billed d number (first ∷ later) =
    by_place (cases_lt d first.from) (cases_lt d first.to) (values_on-billed d (number + 1) later)
  where
    billed : Stretch Charge
    billed = record {
      from = first.from;
      to = first.to;
      value =
          record { number = number; cell = first.value };
    }

    rest : List (Stretch Charge)
    rest = billed_from (number + 1) later

    by_place : (d < first.from) ⊎ (first.from ≤ d) → (d < first.to) ⊎ (first.to ≤ d)
        → cells_of (values_on d rest) ≡ values_on d later
        → cells_of (values_on d (billed ∷ rest)) ≡ values_on d (first ∷ later)
    by_place (inl before) at_end is =
        rw (values_on-later d first later before, values_on-later d billed rest before) is
    by_place (inr from) (inl to) is =
        rw (values_on-here d first later from to, values_on-here d billed rest from to, is) refl
    by_place (inr from) (inr after) is =
        rw (values_on-past d first later after, values_on-past d billed rest after) is

-- a charge is taken off by its own number
charges_but-own : (charge : Charge) → charges_but (Some charge.number) (charge ∷ []) ≡ []
charges_but-own charge = rw (eq-eqb charge.number charge.number refl) refl

-- where there is one charge at most, what walks make of it is what the definitions leave and add
pub charge_after-left : (charge : Option Charge) (due : Option Cell) (billed : List Charge)
    → cells_of billed ≡ option_to_list (missing_among (option_to_list charge) due)
    → option_to_list (charge_after charge (wrong_among (option_to_list charge) due) (slice_get billed 0))
    ≡ charges_but (wrong_among (option_to_list charge) due) (option_to_list charge) ++ billed
charge_after-left None None billed is = rw (no-charge billed is) refl
charge_after-left None (Some cell) billed is = rw ((one-charge billed cell is).1) refl
charge_after-left (Some charge) None billed is =
    rw (no-charge billed is, charges_but-own charge) refl
charge_after-left (Some charge) (Some cell) billed is =
    by_test (same_cell cell charge.cell) refl
  where
    by_test : (same : Bool) → same_cell cell charge.cell ≡ same
        → option_to_list (charge_after (Some charge) (wrong_among (charge ∷ []) (Some cell))
        (slice_get billed 0))
        ≡ charges_but (wrong_among (charge ∷ []) (Some cell)) (charge ∷ []) ++ billed
    by_test true same =
        let none : billed ≡ [] = no-charge billed (rw same at is) in rw (same, none) refl
    by_test false same =
        let one = one-charge billed cell (rw same at is) in rw (same, one.1, charges_but-own charge) refl

module _ (live : List (Stretch Charge)) (charges : ℕ → List Charge) (due : ℕ → Option Cell) (number : ℕ) where
  -- the runs of wrong charges, and the bills of missing ones
  abbrev pub wrong_runs : List (Stretch ℕ)
  wrong_runs = runs nat_eq (λ d. wrong_among (charges d) (due d)) first_day charged_days

  abbrev pub bills_from : List (Stretch Charge)
  bills_from = billed_from number (missing_runs charges due first_day charged_days)

  -- a day of the window has what the definitions leave and add
  pub charge_on-left : (d : ℕ) → first_day ≤ d → d < end_of_days
      → charges d ≡ option_to_list (value_in live d)
      → option_to_list (charge_on live wrong_runs bills_from d)
      ≡ charges_but (wrong_among (charges d) (due d)) (charges d) ++ values_on d bills_from
  charge_on-left d low high one =
      let taken : value_in wrong_runs d ≡ wrong_among (charges d) (due d) =
      get-one (wrong_among (charges d) (due d)) (values_on d wrong_runs)
      (sym (runs-cover nat_eq nat_eq-same (λ d. wrong_among (charges d) (due d)) first_day charged_days
      d low high)) in
      let added : cells_of (values_on d bills_from) ≡ option_to_list (missing_among (charges d) (due d)) =
      values_on-billed d number (missing_runs charges due first_day charged_days)
      ∙ runs-cover same_cell same_cell-same (λ d. missing_among (charges d) (due d)) first_day
      charged_days d low
      high in
      let left = charge_after-left (value_in live d) (due d) (values_on d bills_from)
      (subst (λ (values : List Charge). cells_of (values_on d bills_from)
      ≡ option_to_list (missing_among values (due d))) one added) in
      ap (λ (repaired : Option ℕ). option_to_list (charge_after (value_in live d) repaired
      (value_in bills_from d)))
      (taken ∙ ap (λ (values : List Charge). wrong_among values (due d)) one)
      ∙ left
      ∙ sym (ap (λ (values : List Charge). charges_but (wrong_among values (due d)) values
      ++ values_on d bills_from)
      one)
