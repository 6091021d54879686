-- Walks along the days: what is told of one stretch of them more.
use Rattle.std.proofs.Common.{◌≡◌, ℕ, ◌-◌, ◌<◌, ◌≤◌, nat_eq, List, [], map, Option, Some, None}
use Rattle.std.proofs.Common.{option_to_list, slice_get, refl, sym, ◌∙◌, subst, arith}
use Rattle.std.proofs.lemmas.List.{map-id}
use Rattle.kb_base.specs.Runs.{Stretch, values_on, runs}
use Rattle.kb_base.specs.Intervals.{push_run}
use Rattle.kb_base.proofs.Intervals.{push_run-runs}
use Rattle.kb_base.proofs.Covered.{nat_eq-same}
use Rattle.kb_days.specs.Calendar.{first_day, end_of_days}
use Rattle.kb_due.specs.declared.cell.Cell.{Cell}
use Rattle.kb_due.specs.CellStretches.{same_cell}
use Rattle.kb_due.proofs.SameCells.{same_cell-same}
use Rattle.kb_tree.specs.Items.{Charge}
use Rattle.kb_tree.specs.Repairs.{wrong_among, missing_among}
use Rattle.kb_tree.specs.Covers.{AreInOrder}
use Rattle.kb_tree.specs.Private.Rests.{AreAhead, IsRest}
use Rattle.kb_tree.specs.Private.Walks.{value_in, same_charge, charge_after, charge_on, AreChanges}
use Rattle.kb_tree.proofs.InOrder.{IsRest-all}
use Rattle.kb_tree.proofs.SameCharges.{same_charge-same}

-- the one value of a list that has one at most
pub get-one : {V : Type 0} (one : Option V) (values : List V) → option_to_list one ≡ values
    → slice_get values 0 ≡ one
get-one None values is = rw (← is) refl
get-one (Some value) values is = rw (← is) refl

module _ {V : Type 0} where
  -- stretches in order are what is left of them at first
  pub IsRest-first : (from : ℕ) (stretches : List (Stretch V)) → AreInOrder from end_of_days stretches
      → IsRest stretches from (map (λ stretch. stretch) stretches)
  IsRest-first from stretches order =
      subst (λ (rest : List (Stretch V)). IsRest stretches from rest) (sym (map-id stretches))
      (IsRest-all from stretches order)

  -- what is left behind a later day is left of what was left
  pub IsRest-next : (all rest later : List (Stretch V)) (day next : ℕ) → day ≤ next → IsRest all day rest
      → AreAhead next end_of_days later → ((d : ℕ) → next ≤ d → values_on d later ≡ values_on d rest)
      → IsRest all next later
  IsRest-next all rest later day next order is ahead same = record {
    ahead = ahead;
    same = λ d low. same d low ∙ is.same d (omega (arith, low));
  }

  -- the days up to the next change have the value of this one
  pub IsRest-value : (all rest : List (Stretch V)) (day until : ℕ) (value : Option V) → IsRest all day rest
      → option_to_list value ≡ values_on day rest
      → ((d : ℕ) → day ≤ d → d < until → values_on d rest ≡ values_on day rest)
      → (d : ℕ) → day ≤ d → d < until → values_on d all ≡ option_to_list value
  IsRest-value all rest day until value is here steady d low high =
      sym (is.same d low) ∙ steady d low high ∙ sym here

  -- and so what they have is this value
  pub IsRest-value_in : (all rest : List (Stretch V)) (day until : ℕ) (value : Option V) → IsRest all day rest
      → option_to_list value ≡ values_on day rest
      → ((d : ℕ) → day ≤ d → d < until → values_on d rest ≡ values_on day rest)
      → (d : ℕ) → day ≤ d → d < until → value_in all d ≡ value
  IsRest-value_in all rest day until value is here steady d low high =
      get-one value (values_on d all) (sym (IsRest-value all rest day until value is here steady d low high))

-- at first there are no changes
pub AreChanges-first : (charges : ℕ → List Charge) (due : ℕ → Option Cell)
    → AreChanges charges due first_day [] []
unfolding runs
AreChanges-first charges due = record { repairs_are = refl; bills_are = refl }

module _ (charges : ℕ → List Charge) (due : ℕ → Option Cell) where
  -- days with one charge and one due cell behind the others
  pub AreChanges-next : (day next : ℕ) (repairs : List (Stretch ℕ)) (bills : List (Stretch Cell))
      (charge : Option Charge) (cell : Option Cell)
      → first_day ≤ day → day < next
      → ((d : ℕ) → day ≤ d → d < next → charges d ≡ option_to_list charge)
      → ((d : ℕ) → day ≤ d → d < next → due d ≡ cell)
      → AreChanges charges due day repairs bills
      → AreChanges charges due next
      (push_run nat_eq repairs day next (wrong_among (option_to_list charge) cell))
      (push_run same_cell bills day next (missing_among (option_to_list charge) cell))
  AreChanges-next day next repairs bills charge cell from some charged due_is are = record {
    repairs_are = push_run-runs nat_eq nat_eq-same (λ d. wrong_among (charges d) (due d)) first_day day next
        repairs (wrong_among (option_to_list charge) cell) from some
        (λ d low high. rw (charged d low high, due_is d low high) refl) are.repairs_are;
    bills_are = push_run-runs same_cell same_cell-same (λ d. missing_among (charges d) (due d)) first_day day
        next bills (missing_among (option_to_list charge) cell) from some
        (λ d low high. rw (charged d low high, due_is d low high) refl) are.bills_are;
  }

module _ (live : List (Stretch Charge)) (repairs : List (Stretch ℕ)) (bills : List (Stretch Charge)) where
  -- days with one charge, one repair and one bill behind the others
  pub charge_on-next : (day next : ℕ) (found : List (Stretch Charge)) (charge : Option Charge)
      (repaired : Option ℕ) (billed : Option Charge) → first_day ≤ day → day < next
      → ((d : ℕ) → day ≤ d → d < next → value_in live d ≡ charge)
      → ((d : ℕ) → day ≤ d → d < next → value_in repairs d ≡ repaired)
      → ((d : ℕ) → day ≤ d → d < next → value_in bills d ≡ billed)
      → found ≡ runs same_charge (charge_on live repairs bills) first_day (day - first_day)
      → push_run same_charge found day next (charge_after charge repaired billed)
      ≡ runs same_charge (charge_on live repairs bills) first_day (next - first_day)
  charge_on-next day next found charge repaired billed from some charged taken added are =
      push_run-runs same_charge same_charge-same (charge_on live repairs bills) first_day day next found
      (charge_after charge repaired billed) from some
      (λ d low high. rw (charged d low high, taken d low high, added d low high) refl) are

  -- at first no charges are told
  pub charge_on-first : ◌≡◌ {A = List (Stretch Charge)} []
      (runs same_charge (charge_on live repairs bills) first_day (first_day - first_day))
  unfolding runs
  charge_on-first = refl
