-- What holds of a cover made right, and of the items that make it so.
use Rattle.std.proofs.Common.{◌≡◌, ℕ, ◌+◌, ◌<◌, ◌≤◌, ◌⊎◌, inl, inr, false, List, [], ◌∷◌, ◌++◌, map, length}
use Rattle.std.proofs.Common.{nat_eq, Option, Some, IsSome, All, sym, ap, ap₂, ◌∙◌, subst, arith, pos, ◌+ℤ◌}
use Rattle.std.proofs.lemmas.Bool.{cases_lt}
use Rattle.std.proofs.lemmas.List.{append_assoc, length-append, length-map}
use Rattle.std.proofs.lemmas.List.Elements.{All-nil, All-cons, All-head, All-tail, All-append, All-weaker}
use Rattle.std.specs.List.{list_any}
use Rattle.kb_base.specs.Runs.{Stretch, runs}
use Rattle.kb_days.specs.Calendar.{first_day, end_of_days, charged_days}
use Rattle.kb_due.specs.declared.cell.Cell.{Cell}
use Rattle.kb_due.specs.CellStretches.{IsInCell}
use Rattle.kb_tree.specs.declared.item.NewItem.{NewItem}
use Rattle.kb_tree.specs.Items.{Charge, Numbered, numbered, charges_on, cell_at, item_has_day}
use Rattle.kb_tree.specs.Repairs.{wrong_among, repair_of, bill_of, new_repairs, new_bills, new_items}
use Rattle.kb_tree.specs.Repairs.{IsSettled}
use Rattle.kb_tree.specs.Amounts.{total, charged, IsPriced}
use Rattle.kb_tree.specs.Covers.{CoverValue, charges, cell_in, due_in, charged_cell, IsCover, IsAbove}
use Rattle.kb_tree.specs.Covers.{IsCoverOf, IsBelow}
use Rattle.kb_tree.specs.Private.LeftCharges.{missing_runs}
use Rattle.kb_tree.specs.Private.Walks.{AreChanges}
use Rattle.kb_tree.specs.Private.AfterCovers.{with_cells, new_charges, IsCoverAfter}
use Rattle.kb_tree.proofs.InOrder.{AreInOrder-before, AreInOrder-after}
use Rattle.kb_tree.proofs.CellMaps.{cell_of, with_cells-items, with_cells-above}
use Rattle.kb_tree.proofs.CoverDays.{charges-known, charges-inside, charges-settled}
use Rattle.kb_tree.proofs.AddedCharges.{charges_on-added, charges_on-outside}
use Rattle.kb_tree.proofs.AddedNumbers.{RepairsBelow, numbered-append, numbered-below, new_items-below}
use Rattle.kb_tree.proofs.AddedNumbers.{cell_at-repairs, IsBelow-higher}
use Rattle.kb_tree.proofs.AgreedItems.{new_items-agree, charges_after-agree}
use Rattle.kb_tree.proofs.SettledDays.{after-settled}
use Rattle.kb_tree.proofs.UntouchedDays.{untouched, untouched_outside}
use Rattle.kb_tree.proofs.BalancedItems.{balanced}
use Rattle.kb_tree.proofs.PricedItems.{priced}

-- what holds of all of two parts holds of the first
All-front : {A : Type 0} (P : A → Type 0) (front back : List A) → All P (front ++ back) → All P front
All-front P [] back each = All-nil P
All-front P (first ∷ front) back each =
    All-cons P first front (All-head P first (front ++ back) each)
    (All-front P front back (All-tail P first (front ++ back) each))

-- the items of changes are those that the definitions make
pub changes-items : (charges : ℕ → List Charge) (due : ℕ → Option Cell) (repairs : List (Stretch ℕ))
    (bills : List (Stretch Cell)) → AreChanges charges due end_of_days repairs bills
    → map repair_of repairs ++ map bill_of bills ≡ new_items charges due first_day charged_days
unfolding new_repairs new_bills
changes-items charges due repairs bills are =
    ap₂ (λ (repairs : List (Stretch ℕ)) (bills : List (Stretch Cell)). map repair_of repairs
    ++ map bill_of bills)
    are.repairs_are are.bills_are

module _ (old : CoverValue) (due : ℕ → Option Cell) (first : ℕ) (is : IsCover old) where
  -- the items that make the cover right
  abbrev pub made : List NewItem
  made = new_items (charges old) due first_day charged_days

  -- what was due when the cover was made
  abbrev pub before : ℕ → Option Cell
  before = due_in (map charged_cell old.live)

  abbrev repairs : List NewItem
  repairs = new_repairs (charges old) due first_day charged_days

  abbrev missing : List (Stretch Cell)
  missing = missing_runs (charges old) due first_day charged_days

  -- a day whose due cell stays has no new item
  pub made-untouched : (d : ℕ) → before d ≡ due d → list_any (item_has_day d) made ≡ false
  made-untouched d same =
      elim (cases_lt d first_day) [
        | inl early ↦ untouched_outside (charges old) due first_day charged_days d (inl early)
        | inr low ↦ elim (cases_lt d end_of_days) [
          | inl high ↦ untouched (charges old) before due first_day charged_days
              (charges-settled old is) d low high
              same
          | inr late ↦ untouched_outside (charges old) due first_day charged_days d (inr late)
        ]
      ]

  -- the new items amount to what is charged now less what was
  pub made-total : total (cell_in old) made +ℤ pos (charged before first_day charged_days)
      ≡ pos (charged due first_day charged_days)
  made-total =
      balanced (cell_in old) (charges old) before due first_day charged_days (charges-settled old is)
      (λ d low high. charges-known old is d)

  -- each new item lies inside the period of the cell by which it is priced
  pub made-priced : ((d : ℕ) (cell : Cell) → due d ≡ Some cell
      → IsInCell (record { from = d; to = d + 1; value = cell }))
      → All (IsPriced (cell_in old)) made
  made-priced inside =
      priced (cell_in old) (charges old) due first_day charged_days (λ d low high. charges-known old is d)
      (λ d low high. charges-inside old is d) (λ d cell low high has. inside d cell has)

  module _ (new : CoverValue) (after : IsCoverAfter old due first new) where
    -- each day has its due charge
    pub after-settles : IsSettled (charges new) due first_day charged_days
    after-settles d low high =
        ap (map (λ (charge : Charge). charge.cell)) (after.charged d low high)
        ∙ after-settled (charges old) before due first_day charged_days first d low high
        (charges-settled old is d low high)

    -- the numbers of bills stay below the next item's
    pub after-above : IsAbove first old → IsAbove (first + length made) new
    unfolding new_bills
    after-above above number there =
        let known : IsSome (cell_of (with_cells old.cells (new_charges old due first)) number) =
        subst (λ cells. IsSome (cell_of cells number)) after.celled there in
        let below : number < first + length repairs + length missing =
        with_cells-above old.cells (first + length repairs) missing
        (λ number there. omega (arith, above number there)) number known in
        let parts = length-append repairs (map bill_of missing) in
        let bills = length-map missing bill_of in omega (arith, below, parts, bills)

    module _ (is_new : IsCover new) (items : List Numbered) (of : IsCoverOf old items)
        (below : All (IsBelow first) items) where
      -- the items make the new items that the cover makes
      same-items : made ≡ new_items (charges_on items) due first_day charged_days
      same-items =
          new_items-agree (charges old) (charges_on items) due first_day charged_days
          (λ d low high. of.charged d)

      -- items with the new ones
      abbrev more : List Numbered
      more = items ++ numbered first made

      -- the same, by the items
      more-is : items ++ numbered first (new_items (charges_on items) due first_day charged_days) ≡ more
      more-is = ap (λ (added : List NewItem). items ++ numbered first added) (sym same-items)

      -- on a day of the window the cover charges what the items do
      charged-inside : (d : ℕ) → first_day ≤ d → d < end_of_days → charges new d ≡ charges_on more d
      charged-inside d low high =
          after.charged d low high
          ∙ charges_after-agree (charges old) (charges_on items) due first_day charged_days
          (λ d low high. of.charged d) first d low high
          ∙ sym (charges_on-added items due first first_day charged_days d low high below)
          ∙ ap (λ (items : List Numbered). charges_on items d) more-is

      -- and on another day nothing
      charged-outside : (d : ℕ) → (d < first_day) ⊎ (end_of_days ≤ d) → charges old d ≡ []
          → charges new d ≡ []
          → charges new d ≡ charges_on more d
      charged-outside d outside none none_new =
          none_new ∙ sym none ∙ of.charged d
          ∙ sym (charges_on-outside items due first first_day charged_days d outside below)
          ∙ ap (λ (items : List Numbered). charges_on items d) more-is

      -- the cover charges what the items do
      pub after-charges : (d : ℕ) → charges new d ≡ charges_on more d
      after-charges d =
          elim (cases_lt d first_day) [
            | inl early ↦ charged-outside d (inl early)
                (AreInOrder-before first_day end_of_days d old.live early is.in_order)
                (AreInOrder-before first_day end_of_days d new.live early is_new.in_order)
            | inr low ↦ elim (cases_lt d end_of_days) [
              | inl high ↦ charged-inside d low high
              | inr late ↦ charged-outside d (inr late)
                  (AreInOrder-after first_day end_of_days d old.live late is.in_order)
                  (AreInOrder-after first_day end_of_days d new.live late is_new.in_order)
            ]
          ]

      -- the items, and the repairs among the new ones, are below the number of the first bill
      repaired-below : All (IsBelow (first + length repairs)) (items ++ numbered first repairs)
      repaired-below =
          All-append (IsBelow (first + length repairs)) items (numbered first repairs)
          (All-weaker (IsBelow first) (IsBelow (first + length repairs))
          (IsBelow-higher first (first + length repairs) (omega arith)) items below)
          (numbered-below first (first + length repairs) repairs (omega arith)
          (All-front (RepairsBelow (first + length repairs)) repairs
          (new_bills (charges old) due first_day charged_days)
          (subst (λ (items : List NewItem). All (RepairsBelow (first + length repairs)) items)
          (sym same-items)
          (new_items-below items due first first_day charged_days below (first + length repairs)
          (omega arith)))))

      -- the cover knows the cells of the items
      pub after-cells : (number : ℕ) → cell_in new number ≡ cell_at more number
      unfolding new_repairs new_bills
      after-cells number =
          ap (λ cells. cell_of cells number) after.celled
          ∙ with_cells-items (items ++ numbered first repairs) (first + length repairs) missing old.cells
          repaired-below
          (λ number. of.celled number ∙ sym (cell_at-repairs items first number
          (runs nat_eq (λ d. wrong_among (charges old d) (due d)) first_day charged_days)))
          number
          ∙ ap (λ (items : List Numbered). cell_at items number)
          (append_assoc items (numbered first repairs) (numbered (first + length repairs)
          (map bill_of missing))
          ∙ ap (λ (added : List Numbered). items ++ added)
          (sym (numbered-append first repairs (map bill_of missing))))

      -- the cover made right is that of the items with the new ones
      pub after-cover_of : IsCoverOf new more
      after-cover_of = record { charged = after-charges; celled = after-cells }
