-- What walks along the days have told so far.
use Rattle.std.specs.Prelude.{ℕ, ◌-◌, ◌≡◌, Bool, true, ◌&&◌, nat_eq, List, Option, Some, None, slice_get}
use Rattle.std.specs.Prelude.{refl}
use Rattle.kb_base.specs.Runs.{Stretch, runs, values_on}
use Rattle.kb_days.specs.Calendar.{first_day}
use Rattle.kb_due.specs.declared.cell.Cell.{Cell}
use Rattle.kb_due.specs.CellStretches.{same_cell}
use Rattle.kb_tree.specs.Items.{Charge, march_cell, march_charge}
use Rattle.kb_tree.specs.Repairs.{wrong_among, missing_among}

-- two charges are the same: field by field, and a field's own fields together
abbrev pub same_charge : Charge → Charge → Bool
same_charge one other =
    nat_eq one.number other.number
    && ((nat_eq one.cell.plan.version other.cell.plan.version
    && (nat_eq one.cell.plan.list other.cell.plan.list && nat_eq one.cell.plan.plan other.cell.plan.plan))
    && (nat_eq one.cell.phase other.cell.phase && (nat_eq one.cell.start other.cell.start
    && (nat_eq one.cell.end other.cell.end && nat_eq one.cell.price other.cell.price))))

same_at_march : same_charge march_charge march_charge ≡ true
same_at_march = refl

-- the value of a day, if it has one: that of the first stretch which has the day
abbrev pub value_in : {V : Type 0} → List (Stretch V) → ℕ → Option V
value_in stretches day = slice_get (values_on day stretches) 0

-- the charge of a day once changes are made: that of a bill, or the one before, if no repair takes it off
abbrev pub charge_after : Option Charge → Option ℕ → Option Charge → Option Charge
charge_after before repaired (Some billed) = Some billed
charge_after before (Some number) None = None
charge_after before None None = before

charge_kept : charge_after (Some march_charge) None None ≡ Some march_charge
charge_kept = refl

charge_gone : charge_after (Some march_charge) (Some 3) None ≡ None
charge_gone = refl

charge_replaced : charge_after (Some march_charge) (Some 3) (Some (record { number = 5; cell = march_cell }))
    ≡ Some (record { number = 5; cell = march_cell })
charge_replaced = refl

-- the repairs and bills that were found are the runs up to a day
pub record AreChanges (charges : ℕ → List Charge) (due : ℕ → Option Cell) (day : ℕ)
    (repairs : List (Stretch ℕ)) (bills : List (Stretch Cell)) : Type 0 where
  pub repairs_are : repairs ≡ runs nat_eq (λ d. wrong_among (charges d) (due d)) first_day (day - first_day)
  pub bills_are : bills ≡ runs same_cell (λ d. missing_among (charges d) (due d)) first_day (day - first_day)

-- what is charged of a day once changes are made, as stretches tell it
abbrev pub charge_on : List (Stretch Charge) → List (Stretch ℕ) → List (Stretch Charge) → ℕ → Option Charge
charge_on live repairs bills d =
    charge_after (value_in live d) (value_in repairs d) (value_in bills d)
