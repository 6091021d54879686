-- The cells of bills by their numbers, once more bills are added.
use Rattle.std.proofs.Common.{◌≡◌, ℕ, ◌+◌, ◌<◌, Bool, true, false, ◌==◌, cond, if◌then◌else◌, List, [], ◌∷◌}
use Rattle.std.proofs.Common.{◌++◌, ◌&&◌, length, map, Option, Some, IsSome, All, refl, sym, ap, ◌∙◌, subst}
use Rattle.std.proofs.Common.{drop, arith, inl, inr, append-nil}
use Rattle.std.proofs.lemmas.Bool.{eqb-true, eq-eqb, ne_eqb, cond-true, cond-false, cases_Bool}
use Rattle.std.proofs.lemmas.Cmp.{nat_list_cmp_total}
use Rattle.std.proofs.lemmas.List.{append_assoc, drop_more}
use Rattle.std.specs.List.{slice_index_or}
use Rattle.std.proofs.lemmas.List.Elements.{All-nil, All-cons, All-append, All-weaker}
use Rattle.std.proofs.lemmas.Map.Text.{is_eq-slice_cmp}
use Rattle.std.specs.FinMap as map_of
use Rattle.std.specs.FinMap.{get-insert}
use Rattle.std.specs.Ordering.{is_eq}
use Rattle.kb_base.specs.Runs.{Stretch}
use Rattle.kb_sharing.specs.Keys.{SharedEntries, by_words}
use Rattle.kb_due.specs.declared.cell.Cell.{Cell}
use Rattle.kb_tree.specs.Items.{Charge, Numbered, numbered, cell_at}
use Rattle.kb_tree.specs.Repairs.{bill_of}
use Rattle.kb_tree.specs.Covers.{IsBelow}
use Rattle.kb_tree.specs.Private.LeftCharges.{billed_from}
use Rattle.kb_tree.specs.Private.AfterCovers.{with_cells}
use Rattle.kb_tree.specs.Private.RisingBills.{AreBelow}
use Rattle.kb_tree.proofs.AddedNumbers.{cell_at-bill, IsBelow-higher}

-- the cell at a number
abbrev pub cell_of : SharedEntries Cell → ℕ → Option Cell
cell_of cells number = map_of.get cells (number ∷ [])

-- words of one number tie where the numbers are the same
pub words_tie : (a b : ℕ) → is_eq (by_words (a ∷ []) (b ∷ [])) ≡ (a == b)
words_tie a b = is_eq-slice_cmp (a ∷ []) (b ∷ []) ∙ same
  where
    same : ((a == b) && true) ≡ (a == b)
    same = elim (cases_Bool (a == b)) [ inl equal ↦ rw equal refl | inr other ↦ rw other refl ]

-- where a bill's cell is added, its number has it, and each other one what it had
pub cell_of-insert : (cells : SharedEntries Cell) (key number : ℕ) (cell : Cell)
    → cell_of (map_of.insert cells (key ∷ []) cell) number
    ≡ (if number == key then Some cell else cell_of cells number)
cell_of-insert cells key number cell =
    get-insert nat_list_cmp_total cells (key ∷ []) cell (number ∷ [])
    ∙ ap (λ same. cond same (Some cell) (cell_of cells number))
    (words_tie number key)

-- the number of the bill that is added has its cell
cell_of-here : (cells : SharedEntries Cell) (key : ℕ) (cell : Cell)
    → cell_of (map_of.insert cells (key ∷ []) cell) key ≡ Some cell
cell_of-here cells key cell =
    cell_of-insert cells key key cell ∙ cond-true (key == key) _ _ (eq-eqb key key refl)

-- another number has what it had
cell_of-other : (cells : SharedEntries Cell) (key number : ℕ) (cell : Cell) → number < key
    → cell_of (map_of.insert cells (key ∷ []) cell) number ≡ cell_of cells number
cell_of-other cells key number cell below =
    cell_of-insert cells key number cell
    ∙ cond-false (number == key) _ _ (ne_eqb number key (λ same. omega (arith, same, below)))

-- a number below those of the bills has what it had
pub with_cells-other : (cells : SharedEntries Cell) (first number : ℕ) (bills : List (Stretch Cell))
    → number < first → cell_of (with_cells cells (billed_from first bills)) number ≡ cell_of cells number
with_cells-other cells first number [] below = refl
with_cells-other cells first number (bill ∷ later) below =
    with_cells-other (map_of.insert cells (first ∷ []) bill.value) (first + 1) number later
    (omega (arith, below))
    ∙ cell_of-other cells first number bill.value below

-- a stretch's charge is known with its cell
abbrev pub IsKnown : SharedEntries Cell → Stretch Charge → Type 0
IsKnown cells stretch = cell_of cells stretch.value.number ≡ Some stretch.value.cell

-- each bill has its cell
pub with_cells-known : (cells : SharedEntries Cell) (first : ℕ) (bills : List (Stretch Cell))
    → All (IsKnown (with_cells cells (billed_from first bills))) (billed_from first bills)
with_cells-known cells first [] = All-nil (IsKnown cells)
with_cells-known cells first (bill ∷ later) =
    let more = map_of.insert cells (first ∷ []) bill.value in
    All-cons (IsKnown (with_cells more (billed_from (first + 1) later)))
    (record { from = bill.from; to = bill.to; value = record { number = first; cell = bill.value } })
    (billed_from (first + 1) later)
    (with_cells-other more (first + 1) first later (omega arith) ∙ cell_of-here cells first bill.value)
    (with_cells-known more (first + 1) later)

-- the next number is above that of a bill with the number above all others
pub next-above : (cells : SharedEntries Cell) (first : ℕ) (cell : Cell) → AreBelow cells first
    → AreBelow (map_of.insert cells (first ∷ []) cell) (first + 1)
next-above cells first cell above number there =
    by_test (number == first) refl (subst IsSome (cell_of-insert cells first number cell) there)
  where
    by_test : (same : Bool) → (number == first) ≡ same
        → IsSome (if same then Some cell else cell_of cells number) → number < first + 1
    by_test true same there = omega (arith, eqb-true number first same)
    by_test false same there = omega (arith, above number there)

-- the numbers with a cell are below one past those of the bills
pub with_cells-above : (cells : SharedEntries Cell) (first : ℕ) (bills : List (Stretch Cell))
    → AreBelow cells first → AreBelow (with_cells cells (billed_from first bills)) (first + length bills)
with_cells-above cells first [] above number there = omega (arith, above number there)
with_cells-above cells first (bill ∷ later) above number there =
    let more = map_of.insert cells (first ∷ []) bill.value in
    let rest : number < first + 1 + length later =
    with_cells-above more (first + 1) later (next-above cells first bill.value above) number there in
    omega (arith, rest)

-- cells that are those of items, with those of bills, are those of the items with the bills
pub with_cells-items : (items : List Numbered) (first : ℕ) (bills : List (Stretch Cell))
    (cells : SharedEntries Cell) → All (IsBelow first) items
    → ((number : ℕ) → cell_of cells number ≡ cell_at items number)
    → (number : ℕ) → cell_of (with_cells cells (billed_from first bills)) number
    ≡ cell_at (items ++ numbered first (map bill_of bills)) number
with_cells-items items first [] cells below are number =
    are number ∙ ap (λ items. cell_at items number) (sym (append-nil items))
with_cells-items items first (bill ∷ later) cells below are number =
    with_cells-items (items ++ (first, bill_of bill) ∷ []) (first + 1) later
    (map_of.insert cells (first ∷ []) bill.value)
    (All-append (IsBelow (first + 1)) items ((first, bill_of bill) ∷ [])
    (All-weaker (IsBelow first) (IsBelow (first + 1)) (IsBelow-higher first (first + 1) (omega arith)) items
    below)
    (All-cons (IsBelow (first + 1)) (first, bill_of bill) [] (omega arith) (All-nil (IsBelow (first + 1)))))
    (λ number.
    cell_of-insert cells first number bill.value
    ∙ ap (λ found. if number == first then Some bill.value else found) (are number)
    ∙ sym (cell_at-bill items first bill.from bill.to bill.value number below))
    number
    ∙ ap (λ items. cell_at items number)
    (append_assoc items ((first, bill_of bill) ∷ []) (numbered (first + 1) (map bill_of later)))

-- the cells with that of the next bill, and those of the bills behind it
pub next-cells : (cells all : SharedEntries Cell) (number place : ℕ) (bills : List (Stretch Cell))
    (bill : Stretch Cell) (cell : Cell) → place < length bills → bill ≡ slice_index_or bills place bill
    → cell ≡ bill.value → with_cells cells (billed_from number (drop place bills)) ≡ all
    → with_cells (map_of.insert cells (number ∷ []) cell)
    (billed_from (number + 1) (drop (place + 1) bills)) ≡ all
next-cells cells all number place bills bill cell inside at same is = rw same (
    sym (ap (λ left. with_cells cells (billed_from number left))
    (drop_more bills place bill inside ∙ ap (λ first. first ∷ drop (place + 1) bills) (sym at))) ∙ is)
