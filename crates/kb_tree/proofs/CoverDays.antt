-- What a cover and pieces say of one day.
use Rattle.std.proofs.Common.{◌≡◌, ℕ, ◌+◌, ◌-◌, ◌<◌, ◌≤◌, ◌⊎◌, inl, inr, List, [], ◌∷◌, map, Option, Some}
use Rattle.std.proofs.Common.{None, All, option_to_list, slice_get, refl, sym, ap, ◌∙◌, subst, arith}
use Rattle.std.proofs.lemmas.Bool.{cases_lt}
use Rattle.std.proofs.lemmas.List.Elements.{All-nil, All-cons, All-head, All-tail}
use Rattle.std.proofs.lemmas.Option.{none-some}
use Rattle.kb_base.specs.Runs.{Stretch, values_on}
use Rattle.kb_days.specs.Calendar.{first_day, end_of_days, charged_days}
use Rattle.kb_due.specs.declared.cell.Cell.{Cell}
use Rattle.kb_due.specs.CellStretches.{IsInCell}
use Rattle.kb_tree.specs.Items.{Charge}
use Rattle.kb_tree.specs.Repairs.{IsSettled}
use Rattle.kb_tree.specs.Covers.{CoverValue, charges, cell_in, due_in, charged_cell, IsCover}
use Rattle.kb_tree.proofs.InOrder.{values_on-here, values_on-later, values_on-past, AreInOrder-one}

-- one day with a cell
abbrev pub one_day : ℕ → Cell → Stretch Cell
one_day d cell = record { from = d; to = d + 1; value = cell }

module _ {V : Type 0} (P : Stretch V → Type 0) (Q : V → Type 0) (d : ℕ)
    (says : (stretch : Stretch V) → P stretch → stretch.from ≤ d → d < stretch.to → Q stretch.value) where
  -- what stretches say of their days holds of what a day has
  pub All-values_on : (stretches : List (Stretch V)) → All P stretches → All Q (values_on d stretches)
  All-values_on [] each = All-nil Q
  All-values_on (first ∷ later) each =
      by_place (cases_lt d first.from) (cases_lt d first.to)
      (All-values_on later (All-tail P first later each))
    where
      by_place : (d < first.from) ⊎ (first.from ≤ d) → (d < first.to) ⊎ (first.to ≤ d)
          → All Q (values_on d later) → All Q (values_on d (first ∷ later))
      by_place (inl before) at_end rest =
          subst (λ (values : List V). All Q values) (sym (values_on-later d first later before)) rest
      by_place (inr from) (inl to) rest =
          subst (λ (values : List V). All Q values) (sym (values_on-here d first later from to))
          (All-cons Q first.value (values_on d later) (says first (All-head P first later each) from to) rest)
      by_place (inr from) (inr after) rest =
          subst (λ (values : List V). All Q values) (sym (values_on-past d first later after)) rest

-- a day of a stretch inside its cell is inside it
pub IsInCell-day : (d : ℕ) (stretch : Stretch Cell) → IsInCell stretch → stretch.from ≤ d → d < stretch.to
    → IsInCell (one_day d stretch.value)
IsInCell-day d stretch inside from to = (omega (arith, inside.0), omega (arith, inside.1), inside.2)

-- a stretch each day of which is inside its cell is inside it
pub IsInCell-days : (stretch : Stretch Cell) → stretch.from < stretch.to
    → ((d : ℕ) → stretch.from ≤ d → d < stretch.to → IsInCell (one_day d stretch.value)) → IsInCell stretch
IsInCell-days stretch some each =
    let first = each stretch.from (omega arith) some in
    let last = each (stretch.to - 1) (omega (arith, some)) (omega (arith, some)) in
    (first.0, omega (arith, last.1, some), first.2)

-- the charges of a day, as cells
pub values_on-cells : (d : ℕ) (live : List (Stretch Charge))
    → values_on d (map charged_cell live) ≡ map (λ (charge : Charge). charge.cell) (values_on d live)
values_on-cells d [] = refl
values_on-cells d (first ∷ later) =
    by_place (cases_lt d first.from) (cases_lt d first.to) (values_on-cells d later)
  where
    by_place : (d < first.from) ⊎ (first.from ≤ d) → (d < first.to) ⊎ (first.to ≤ d)
        → values_on d (map charged_cell later) ≡ map (λ (charge : Charge). charge.cell) (values_on d later)
        → values_on d (map charged_cell (first ∷ later))
        ≡ map (λ (charge : Charge). charge.cell) (values_on d (first ∷ later))
    by_place (inl before) at_end rest =
        rw (
          values_on-later d first later before,
          values_on-later d (charged_cell first) (map charged_cell later) before,
        ) rest
    by_place (inr from) (inl to) rest =
        rw (
          values_on-here d first later from to,
          values_on-here d (charged_cell first) (map charged_cell later) from to,
          rest,
        ) refl
    by_place (inr from) (inr after) rest =
        rw (
          values_on-past d first later after,
          values_on-past d (charged_cell first) (map charged_cell later) after,
        ) rest

-- what a list that has one at most has first, mapped
first-mapped : {A B : Type 0} (f : A → B) (one : Option A) (values : List A) → values ≡ option_to_list one
    → map f values ≡ option_to_list (slice_get (map f values) 0)
first-mapped f None values is = rw is refl
first-mapped f (Some value) values is = rw is refl

module _ (cover : CoverValue) (is : IsCover cover) where
  -- each charge of a day is known with its cell
  pub charges-known : (d : ℕ) → All (λ (charge : Charge). cell_in cover charge.number ≡ Some charge.cell)
      (charges cover d)
  charges-known d =
      All-values_on (λ (stretch : Stretch Charge). cell_in cover stretch.value.number
      ≡ Some stretch.value.cell)
      (λ (charge : Charge). cell_in cover charge.number ≡ Some charge.cell) d
      (λ stretch known from to. known) cover.live is.known

  -- and the day is one of the cell's period
  pub charges-inside : (d : ℕ) → All (λ (charge : Charge). IsInCell (one_day d charge.cell)) (charges cover d)
  charges-inside d =
      All-values_on (λ (stretch : Stretch Charge). IsInCell (charged_cell stretch))
      (λ (charge : Charge). IsInCell (one_day d charge.cell)) d
      (λ stretch inside from to. IsInCell-day d (charged_cell stretch) inside from to) cover.live is.in_cells

  -- a cover charges each day by what its own stretches say is due
  pub charges-settled : IsSettled (charges cover) (due_in (map charged_cell cover.live))
      first_day charged_days
  charges-settled d low high =
      first-mapped (λ (charge : Charge). charge.cell) (slice_get (charges cover d) 0) (charges cover d)
      (AreInOrder-one first_day end_of_days d cover.live is.in_order)
      ∙ ap (λ (values : List Cell). option_to_list (slice_get values 0)) (sym (values_on-cells d cover.live))

-- the first of some values that all have a property has it
first-has : {V : Type 0} (P : V → Type 0) (values : List V) (value : V) → All P values
    → slice_get values 0 ≡ Some value → P value
first-has P [] value each is = absurd (none-some value is)
first-has P (first ∷ later) value each is =
    let same : first ≡ value = cc in subst P same (All-head P first later each)

-- a day of pieces is one of the period of its due cell
pub due_in-inside : (pieces : List (Stretch Cell)) → All IsInCell pieces → (d : ℕ) (cell : Cell)
    → due_in pieces d ≡ Some cell → IsInCell (one_day d cell)
due_in-inside pieces inside d cell is =
    first-has (λ (cell : Cell). IsInCell (one_day d cell)) (values_on d pieces) cell
    (All-values_on IsInCell (λ (cell : Cell). IsInCell (one_day d cell)) d (IsInCell-day d) pieces inside) is
