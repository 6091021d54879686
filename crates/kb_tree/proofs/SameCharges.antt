-- The test for the same charge tells just that.
use Rattle.std.proofs.Common.{◌≡◌, ℕ, Bool, true, false, nat_eq, ◌&&◌, refl}
use Rattle.std.proofs.lemmas.Bool.{and_parts, and_from, eqb-true, eq-eqb}
use Rattle.kb_base.specs.Runs.{IsSame}
use Rattle.kb_due.specs.declared.cell.Cell.{Cell}
use Rattle.kb_due.specs.CellStretches.{same_cell}
use Rattle.kb_due.proofs.SameCells.{same_cell-same}
use Rattle.kb_tree.specs.Items.{Charge}
use Rattle.kb_tree.specs.Private.Walks.{same_charge}

-- tests in a row hold whichever are taken together
together : (a b c d e f g : Bool) → ((a && (b && c)) && (d && (e && (f && g))))
    ≡ ((a && b && c) && d && e && f && g)
together false b c d e f g = refl
together true false c d e f g = refl
together true true false d e f g = refl
together true true true false e f g = refl
together true true true true false f g = refl
together true true true true true false g = refl
together true true true true true true g = refl

-- charges are the same where their numbers and their cells are
same_charge-parts : (one other : Charge)
    → same_charge one other ≡ (nat_eq one.number other.number && same_cell one.cell other.cell)
same_charge-parts one other = rw (together
    (nat_eq one.cell.plan.version other.cell.plan.version) (nat_eq one.cell.plan.list other.cell.plan.list)
    (nat_eq one.cell.plan.plan other.cell.plan.plan) (nat_eq one.cell.phase other.cell.phase)
    (nat_eq one.cell.start other.cell.start) (nat_eq one.cell.end other.cell.end)
    (nat_eq one.cell.price other.cell.price)) refl

-- a number and a cell make a charge
charge_parts : (number number' : ℕ) (cell cell' : Cell) → number ≡ number' → cell ≡ cell'
    → ◌≡◌ {A = Charge} (record { number = number; cell = cell }) (record { number = number'; cell = cell' })
charge_parts number number' cell cell' numbers cells = cc

-- charges that pass the test are the same
same_charge-sound : (one other : Charge) → same_charge one other ≡ true → one ≡ other
same_charge-sound one other passed =
    let parts = and_parts (nat_eq one.number other.number) (same_cell one.cell other.cell)
    (rw (← same_charge-parts one other) passed) in
    charge_parts one.number other.number one.cell other.cell (eqb-true one.number other.number parts.0)
    (same_cell-same.sound one.cell other.cell parts.1)

-- the test of two charges tells whether they are the same
pub same_charge-same : IsSame same_charge
same_charge-same = record {
  sound = same_charge-sound;
  complete = λ one. rw (same_charge-parts one one) (and_from (nat_eq one.number one.number)
      (same_cell one.cell one.cell) (eq-eqb one.number one.number refl) (same_cell-same.complete one.cell));
}
