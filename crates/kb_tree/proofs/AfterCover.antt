-- A cover made right is a cover, and charges what is left and billed.
use Rattle.std.proofs.Common.{◌≡◌, ℕ, ◌+◌, ◌<◌, ◌≤◌, List, [], ◌∷◌, ◌++◌, map, length, nat_eq, Option, Some}
use Rattle.std.proofs.Common.{None}
use Rattle.std.proofs.Common.{IsSome, All, ap₂, option_to_list, refl, sym, ap, ◌∙◌, subst, arith, append-nil}
use Rattle.std.proofs.lemmas.List.Elements.{All-nil, All-cons, All-head, All-tail, All-append, All-filter}
use Rattle.std.proofs.lemmas.List.Elements.{All-weaker}
use Rattle.std.proofs.lemmas.List.{length-map}
use Rattle.kb_base.specs.Runs.{Stretch, values_on, runs, IsStretch}
use Rattle.kb_base.proofs.Covered.{runs-cover, each-run, nat_eq-same}
use Rattle.kb_days.specs.Calendar.{first_day, end_of_days, charged_days}
use Rattle.kb_due.specs.declared.cell.Cell.{Cell}
use Rattle.kb_due.specs.CellStretches.{same_cell, IsInCell}
use Rattle.kb_due.proofs.SameCells.{same_cell-same}
use Rattle.kb_sharing.specs.Keys.{SharedEntries}
use Rattle.kb_tree.specs.Items.{Charge}
use Rattle.kb_tree.specs.Repairs.{wrong_among, missing_among, repair_of, new_repairs}
use Rattle.kb_tree.specs.Covers.{CoverValue, charges, cell_in, charged_cell, IsCover, IsAbove}
use Rattle.kb_tree.specs.Private.LeftCharges.{charges_but, billed_from, missing_runs, charges_after}
use Rattle.kb_tree.specs.Private.Walks.{same_charge, charge_on, AreChanges}
use Rattle.kb_tree.specs.Private.AfterCovers.{with_cells, new_charges, IsCoverAfter, cover_after}
use Rattle.kb_tree.proofs.InOrder.{AreInOrder-one}
use Rattle.kb_tree.proofs.RunsInOrder.{runs-in_order}
use Rattle.kb_tree.proofs.SameCharges.{same_charge-same}
use Rattle.kb_tree.proofs.CellMaps.{IsKnown, with_cells-other, with_cells-known}
use Rattle.kb_tree.proofs.CoverDays.{one_day, All-values_on, IsInCell-days, charges-known, charges-inside}
use Rattle.kb_tree.proofs.AfterDays.{values_on-billed, charge_on-left}
use Rattle.kb_tree.proofs.PricedItems.{missing_among-due}
use Rattle.kb_tree.proofs.AddedCharges.{charges_but-none}

-- what holds of the results holds of what they are results of
All-mapped : {A B : Type 0} (f : A → B) (P : B → Type 0) (values : List A) → All P (map f values)
    → All (λ value. P (f value)) values
All-mapped f P [] each = All-nil (λ value. P (f value))
All-mapped f P (value ∷ later) each =
    All-cons (λ value. P (f value)) value later (All-head P (f value) (map f later) each)
    (All-mapped f P later (All-tail P (f value) (map f later) each))

-- what holds of a value, if there is one
All-option : {A : Type 0} (P : A → Type 0) (one : Option A) → ((value : A) → one ≡ Some value → P value)
    → All P (option_to_list one)
All-option P None says = All-nil P
All-option P (Some value) says = All-cons P value [] (says value refl) (All-nil P)

-- something is known
some-known : {A : Type 0} (found : Option A) (value : A) → found ≡ Some value → IsSome found
some-known found value is = subst (λ (found : Option _). IsSome found) (sym is) refl

module _ (old : CoverValue) (due : ℕ → Option Cell) (first : ℕ) (is : IsCover old) where
  -- the number of the first bill, and the key of the charges once changes are made
  abbrev number : ℕ
  number = first + length (new_repairs (charges old) due first_day charged_days)

  abbrev missing : List (Stretch Cell)
  missing = missing_runs (charges old) due first_day charged_days

  abbrev key : ℕ → Option Charge
  key = charge_on old.live (runs nat_eq (λ d. wrong_among (charges old d) (due d)) first_day charged_days)
      (new_charges old due first)

  -- a day of the window has the charges that are left, and those of bills
  key-left : (d : ℕ) → first_day ≤ d → d < end_of_days
      → option_to_list (key d) ≡ charges_after (charges old) due first_day charged_days first d
  key-left d low high =
      charge_on-left old.live (charges old) due number d low high
      (AreInOrder-one first_day end_of_days d old.live is.in_order)

  -- a cover made right charges these
  pub after-charged : (d : ℕ) → first_day ≤ d → d < end_of_days
      → charges (cover_after old due first) d ≡ charges_after (charges old) due first_day charged_days first d
  after-charged d low high =
      runs-cover same_charge same_charge-same key first_day charged_days d low high ∙ key-left d low high

  -- so it is the old one made right
  pub after-is : IsCoverAfter old due first (cover_after old due first)
  after-is = record { charged = after-charged; celled = refl }

  -- what holds of each charge before and of each bill holds of the charge then
  key-holds : (P : Charge → Type 0) (d : ℕ) → first_day ≤ d → d < end_of_days → All P (charges old d)
      → All P (values_on d (new_charges old due first)) → (charge : Charge) → key d ≡ Some charge → P charge
  key-holds P d low high before added charge has =
      let left = charges_but (wrong_among (charges old d) (due d)) (charges old d) in
      let all : All P (option_to_list (key d)) =
      subst (λ (values : List Charge). All P values) (sym (key-left d low high))
      (All-append P left (values_on d (new_charges old due first))
      (All-filter _ P (charges old d) before) added) in
      All-head P charge [] (subst (λ (one : Option Charge). All P (option_to_list one)) has all)

  module _ (above : IsAbove first old) where
    -- a known charge stays known
    stays-known : (charge : Charge) → cell_in old charge.number ≡ Some charge.cell
        → cell_in (cover_after old due first) charge.number ≡ Some charge.cell
    stays-known charge known =
        let below = above charge.number (some-known (cell_in old charge.number) charge.cell known) in
        with_cells-other old.cells number charge.number missing (omega (arith, below)) ∙ known

    -- the charge of a day is known
    key-known : (d : ℕ) → first_day ≤ d → d < end_of_days → (charge : Charge) → key d ≡ Some charge
        → cell_in (cover_after old due first) charge.number ≡ Some charge.cell
    key-known d low high =
        key-holds (λ charge. cell_in (cover_after old due first) charge.number ≡ Some charge.cell) d low high
        (All-weaker (λ (charge : Charge). cell_in old charge.number ≡ Some charge.cell)
        (λ (charge : Charge). cell_in (cover_after old due first) charge.number ≡ Some charge.cell)
        stays-known (charges old d) (charges-known old is d))
        (All-values_on (IsKnown (with_cells old.cells (new_charges old due first)))
        (λ (charge : Charge). cell_in (cover_after old due first) charge.number ≡ Some charge.cell) d
        (λ stretch known from to. known) (new_charges old due first)
        (with_cells-known old.cells number missing))

    module _ (inside : (d : ℕ) (cell : Cell) → due d ≡ Some cell → IsInCell (one_day d cell)) where
      -- the bills of a day are inside their cells
      bills-inside : (d : ℕ) → first_day ≤ d → d < end_of_days
          → All (λ (charge : Charge). IsInCell (one_day d charge.cell))
          (values_on d (new_charges old due first))
      bills-inside d low high =
          All-mapped (λ (charge : Charge). charge.cell) (λ (cell : Cell). IsInCell (one_day d cell))
          (values_on d (new_charges old due first))
          (subst (λ (cells : List Cell). All (λ (cell : Cell). IsInCell (one_day d cell)) cells)
          (sym (values_on-billed d number missing
          ∙ runs-cover same_cell same_cell-same (λ d. missing_among (charges old d) (due d))
          first_day charged_days
          d low high))
          (All-option (λ (cell : Cell). IsInCell (one_day d cell)) (missing_among (charges old d) (due d))
          (λ cell has. inside d cell (missing_among-due (charges old d) (due d) cell has))))

      -- a cover made right is a cover
      pub after-cover : IsCover (cover_after old due first)
      after-cover = record {
        in_order = runs-in_order same_charge key same_charge-same;
        in_cells = All-weaker (IsStretch key first_day end_of_days)
            (λ (stretch : Stretch Charge). IsInCell (charged_cell stretch))
            (λ stretch run. IsInCell-days (charged_cell stretch) run.some_day
            (λ d from to. key-holds (λ charge. IsInCell (one_day d charge.cell)) d
            (omega (arith, from, run.begins)) (omega (arith, to, run.ends)) (charges-inside old is d)
            (bills-inside d (omega (arith, from, run.begins)) (omega (arith, to, run.ends))) stretch.value
            (run.valued d from to)))
            (runs same_charge key first_day charged_days)
            (each-run same_charge same_charge-same key first_day charged_days);
        known = All-weaker (IsStretch key first_day end_of_days)
            (λ (stretch : Stretch Charge). cell_in (cover_after old due first) stretch.value.number
            ≡ Some stretch.value.cell)
            (λ stretch run. key-known stretch.from run.begins (omega (arith, run.some_day, run.ends))
            stretch.value (run.valued stretch.from (omega arith) run.some_day))
            (runs same_charge key first_day charged_days)
            (each-run same_charge same_charge-same key first_day charged_days);
      }

  -- what nothing has is nothing
  none-there : (one : Option ℕ) → option_to_list one ≡ [] → one ≡ None
  none-there None none = refl
  none-there (Some value) none = absurd (cc)

  -- where nothing is wrong or missing, the cover is right as it is
  pub same-after : AreChanges (charges old) due end_of_days [] [] → IsCoverAfter old due first old
  same-after none = record {
    charged = λ d low high.
        let right : wrong_among (charges old d) (due d) ≡ None =
        none-there (wrong_among (charges old d) (due d))
        (sym (runs-cover nat_eq nat_eq-same (λ d. wrong_among (charges old d) (due d)) first_day
        charged_days d low
        high) ∙ ap (values_on d) (sym none.repairs_are)) in
        sym (ap (λ (bills : List (Stretch Cell)). charges_but (wrong_among (charges old d) (due d))
        (charges old d)
        ++ values_on d (billed_from number bills)) (sym none.bills_are)
        ∙ append-nil (charges_but (wrong_among (charges old d) (due d)) (charges old d))
        ∙ ap (λ (one : Option ℕ). charges_but one (charges old d)) right
        ∙ charges_but-none (charges old d));
    celled = sym (ap (λ (bills : List (Stretch Cell)). with_cells old.cells (billed_from number bills))
        (sym none.bills_are));
  }

-- what is made of the changes of a cover is the cover made right
pub after-made : (old : CoverValue) (due : ℕ → Option Cell) (first number : ℕ) (repairs : List (Stretch ℕ))
    (bills : List (Stretch Cell)) (billed live : List (Stretch Charge)) (cells : SharedEntries Cell)
    → AreChanges (charges old) due end_of_days repairs bills → number ≡ first + length repairs
    → billed ≡ billed_from number bills
    → live ≡ runs same_charge (charge_on old.live repairs billed) first_day charged_days
    → cells ≡ with_cells old.cells billed
    → ◌≡◌ {A = CoverValue} (record { live = live; cells = cells }) (cover_after old due first)
unfolding new_repairs
after-made old due first number repairs bills billed live cells are numbers bills_are live_are cells_are =
    let wrong = runs nat_eq (λ d. wrong_among (charges old d) (due d)) first_day charged_days in
    let count : number ≡ first + length (map repair_of wrong) =
    numbers ∙ ap (λ (repairs : List (Stretch ℕ)). first + length repairs) are.repairs_are
    ∙ ap (λ (count : ℕ). first + count) (sym (length-map wrong repair_of)) in
    let all : billed ≡ new_charges old due first =
    bills_are ∙ ap₂ billed_from count are.bills_are in
    ap₂ {A = List (Stretch Charge)} {B = SharedEntries Cell} {C = CoverValue}
    (λ live cells. record { live = live; cells = cells })
    (live_are ∙ ap₂ (λ (repairs : List (Stretch ℕ)) (billed : List (Stretch Charge)).
    runs same_charge (charge_on old.live repairs billed) first_day charged_days) are.repairs_are all)
    (cells_are ∙ ap (with_cells old.cells) all)
