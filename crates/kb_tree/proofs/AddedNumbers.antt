-- The numbers of a cover's items, and its bills' cells, once items with the numbers from one on are added.
use Rattle.std.proofs.Common.{◌≡◌, ℕ, ◌+◌, ◌<◌, ◌≤◌, Bool, true, false, ◌==◌, nat_eq, cond, if◌then◌else◌}
use Rattle.std.proofs.Common.{List, [], ◌∷◌, ◌++◌, length, map, Option, Some, None, All, refl, sym, ap, ◌∙◌}
use Rattle.std.proofs.Common.{arith, true≢false}
use Rattle.std.proofs.lemmas.Bool.{eqb-true, eqb-false, eq-eqb, ne_eqb, cond_both}
use Rattle.std.proofs.lemmas.List.Elements.{All-nil, All-cons, All-head, All-tail, All-append, All-map}
use Rattle.std.proofs.lemmas.List.Elements.{All-weaker}
use Rattle.kb_base.specs.Runs.{Stretch, runs, IsStretch}
use Rattle.kb_base.proofs.Covered.{each-run, IsStretch-first, nat_eq-same}
use Rattle.kb_due.specs.declared.cell.Cell.{Cell}
use Rattle.kb_tree.specs.declared.item.NewItem.{NewItem}
use Rattle.kb_tree.specs.declared.item.NewItem.TheVariants.{Bill, Repair}
use Rattle.kb_tree.specs.Items.{Numbered, charges_on, numbered, item_cell, cell_at}
use Rattle.kb_tree.specs.Repairs.{wrong_among, repair_of, bill_of, new_repairs, new_bills, new_items}
use Rattle.kb_tree.specs.Covers.{IsBelow}
use Rattle.kb_tree.specs.Private.LeftCharges.{missing_runs}
use Rattle.kb_tree.proofs.BelowNumbers.{charges_on-below, wrong_among-below}

-- the numbers of two parts go on from the first to the second
pub numbered-append : (first : ℕ) (front back : List NewItem)
    → numbered first (front ++ back) ≡ numbered first front ++ numbered (first + length front) back
numbered-append first [] back =
    let e : first ≡ first + 0 = omega arith in ap (λ n. numbered n back) e
numbered-append first (item ∷ front) back =
    let later = numbered-append (first + 1) front back in
    let e : first + 1 + length front ≡ first + length (item ∷ front) = omega arith in
    ap (λ items. (first, item) ∷ items)
    (later ∙ ap (λ n. numbered (first + 1) front ++ numbered n back) e)

-- what an item repairs, if it is a repair, has a number below another
abbrev pub RepairsBelow : ℕ → NewItem → Type 0
RepairsBelow first (Bill from to cell) = Unit {0}
RepairsBelow first (Repair of from to) = of < first

-- items are below a number that is past theirs, where what they repair is
pub numbered-below : (first past : ℕ) (added : List NewItem) → first + length added ≤ past
    → All (RepairsBelow past) added → All (IsBelow past) (numbered first added)
numbered-below first past [] high each = All-nil (IsBelow past)
numbered-below first past (item ∷ later) high each =
    All-cons (IsBelow past) (first, item) (numbered (first + 1) later)
    (one item (All-head (RepairsBelow past) item later each))
    (numbered-below (first + 1) past later (omega arith) (All-tail (RepairsBelow past) item later each))
  where
    one : (own : NewItem) → RepairsBelow past own → IsBelow past (first, own)
    one (Bill from to cell) below = omega arith
    one (Repair of from to) below = (omega arith, below)

-- what is below a number is below a higher one
pub IsBelow-higher : (first past : ℕ) → first ≤ past → (item : Numbered) → IsBelow first item
    → IsBelow past item
IsBelow-higher first past high (number, Bill from to cell) below = omega arith
IsBelow-higher first past high (number, Repair of from to) below =
    (omega (arith, below.0), omega (arith, below.1))

module _ (items : List Numbered) (due : ℕ → Option Cell) (first day count : ℕ)
    (below : All (IsBelow first) items) where
  -- the new items repair numbers below that of the first of them
  pub new_items-below : (past : ℕ) → first ≤ past
      → All (RepairsBelow past) (new_items (charges_on items) due day count)
  unfolding new_repairs new_bills
  new_items-below past high =
      let key = λ (d : ℕ). wrong_among (charges_on items d) (due d) in
      let repaired = runs nat_eq key day count in
      let billed = missing_runs (charges_on items) due day count in
      All-append (RepairsBelow past) (map repair_of repaired) (map bill_of billed)
      (All-map (RepairsBelow past) repair_of repaired
      (All-weaker (IsStretch key day (day + count)) (λ stretch. RepairsBelow past (repair_of stretch))
      one repaired (each-run nat_eq nat_eq-same key day count)))
      (All-map (RepairsBelow past) bill_of billed (λ k default within. tt))
    where
      one : (stretch : Stretch ℕ)
          → IsStretch (λ (d : ℕ). wrong_among (charges_on items d) (due d)) day (day + count) stretch
          → RepairsBelow past (repair_of stretch)
      one stretch is =
          let low = wrong_among-below first (charges_on items stretch.from) (due stretch.from) stretch.value
          (charges_on-below items first stretch.from below)
          (IsStretch-first (λ (d : ℕ). wrong_among (charges_on items d) (due d)) day (day + count) stretch
          is) in
          omega arith

-- with the new items, all are below the number past theirs
pub below-added : (items : List Numbered) (due : ℕ → Option Cell) (first day count : ℕ)
    → All (IsBelow first) items
    → All (IsBelow (first + length (new_items (charges_on items) due day count)))
    (items ++ numbered first (new_items (charges_on items) due day count))
below-added items due first day count below =
    let added = new_items (charges_on items) due day count in
    let past = first + length added in
    All-append (IsBelow past) items (numbered first added)
    (All-weaker (IsBelow first) (IsBelow past) (IsBelow-higher first past (omega arith)) items below)
    (numbered-below first past added (omega arith)
    (new_items-below items due first day count below past (omega arith)))

-- the test of two numbers is the same either way round
eqb-flip : (a b : ℕ) → (a == b) ≡ (b == a)
eqb-flip a b = by_test (a == b) refl
  where
    by_test : (same : Bool) → (a == b) ≡ same → (a == b) ≡ (b == a)
    by_test true is = is ∙ sym (eq-eqb b a (sym (eqb-true a b is)))
    by_test false is = is ∙ sym (ne_eqb b a (λ same. eqb-false a b is (sym same)))

-- an item's own number is below, where the item is
number-below : (first : ℕ) (item : Numbered) → IsBelow first item → item.0 < first
number-below first (number, Bill from to cell) below = below
number-below first (number, Repair of from to) below = below.0

-- of two tests that don't both pass, either may come first
either-first : {X : Type 0} (here there : Bool) (x y z rest : X) → (here ≡ true → there ≡ false)
    → rest ≡ cond there y z → cond here x rest ≡ cond there y (cond here x z)
either-first true true x y z rest apart e = absurd (true≢false (apart refl))
either-first true false x y z rest apart e = refl
either-first false there x y z rest apart e = e

-- a bill's cell is that of its number, and the other cells stay
pub cell_at-bill : (items : List Numbered) (first from to : ℕ) (cell : Cell) (number : ℕ)
    → All (IsBelow first) items
    → cell_at (items ++ (first, Bill from to cell) ∷ []) number
    ≡ (if number == first then Some cell else cell_at items number)
cell_at-bill [] first from to cell number below =
    ap (λ same. cond same (Some cell) None) (eqb-flip first number)
cell_at-bill (item ∷ items) first from to cell number below =
    let low = number-below first item (All-head (IsBelow first) item items below) in
    either-first (item.0 == number) (number == first) (item_cell item.1) (Some cell) (cell_at items number)
    (cell_at (items ++ (first, Bill from to cell) ∷ []) number)
    (λ is. let own = eqb-true item.0 number is in ne_eqb number first (λ same. omega arith))
    (cell_at-bill items first from to cell number (All-tail (IsBelow first) item items below))

-- repairs hide no bill's cell, and have none
pub cell_at-repairs : (items : List Numbered) (first number : ℕ) (stretches : List (Stretch ℕ))
    → cell_at (items ++ numbered first (map repair_of stretches)) number ≡ cell_at items number
cell_at-repairs [] first number [] = refl
cell_at-repairs [] first number (stretch ∷ later) =
    let rest = cell_at-repairs [] (first + 1) number later in
    cond_both (first == number) None (cell_at (numbered (first + 1) (map repair_of later)) number)
    (λ found. found ≡ None) (λ is. refl) (λ is. rest)
cell_at-repairs (item ∷ items) first number stretches =
    let later = cell_at-repairs items first number stretches in
    ap (λ found. cond (item.0 == number) (item_cell item.1) found) later
