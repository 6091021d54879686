-- The numbers of a coverage's items, and of those that are added.
use Rattle.std.proofs.Common.{ℕ, ◌≡◌, ◌+◌, ◌*◌, ◌<◌, ◌≤◌, Bool, true, false, ◌==◌, List, [], ◌∷◌, ◌++◌}
use Rattle.std.proofs.Common.{length, map, All, Option, IsSome, refl, arith, sym, ap, ap₂, ◌∙◌, subst}
use Rattle.std.proofs.Common.{true≢false, length-append, nat_eq, if◌then◌else◌}
use Rattle.std.proofs.lemmas.Bool.{eqb-true}
use Rattle.std.proofs.lemmas.List.{length-map}
use Rattle.std.proofs.lemmas.List.Elements.{All-head, All-tail, All-weaker}
use Rattle.kb_base.specs.Runs.{runs}
use Rattle.kb_base.proofs.Windows.{runs-same-key}
use Rattle.kb_days.specs.Calendar.{first_day, charged_days}
use Rattle.kb_due.specs.declared.cell.Cell.{Cell}
use Rattle.kb_due.specs.CellStretches.{same_cell}
use Rattle.kb_tree.specs.declared.item.NewItem.{NewItem}
use Rattle.kb_tree.specs.declared.item.NewItem.TheVariants.{Bill, Repair}
use Rattle.kb_tree.specs.Items.{Charge, Numbered, charges_on, cell_at, item_cell, numbered}
use Rattle.kb_tree.specs.Repairs.{new_items, new_repairs, new_bills, wrong_among, missing_among, repair_of}
use Rattle.kb_tree.specs.Repairs.{bill_of}
use Rattle.kb_tree.specs.Covers.{CoverValue, IsAbove, IsBelow, IsCoverOf, charges}
use Rattle.kb_tree.proofs.AgreedItems.{new_items-agree}
use Rattle.kb_tree.proofs.AddedNumbers.{below-added, IsBelow-higher}
use Rattle.kb_tree.proofs.NoCover.{no_cover-of}
use Rattle.kb_tree.proofs.RunsInOrder.{runs-length}

-- an item's own number is below, where the item is
number-below : (first : ℕ) (item : Numbered) → IsBelow first item → item.0 < first
number-below first (number, Bill from to cell) below = below
number-below first (number, Repair of from to) below = below.0

-- the bills' numbers are below another, where those of all items are
cell_at-below : (first : ℕ) (items : List Numbered) → All (IsBelow first) items → (number : ℕ)
    → IsSome (cell_at items number) → number < first
cell_at-below first [] below number some = absurd (true≢false (sym some))
cell_at-below first (item ∷ later) below number some =
    by_test (item.0 == number) refl some
    (cell_at-below first later (All-tail (IsBelow first) item later below) number)
  where
    by_test : (same : Bool) → (item.0 == number) ≡ same
        → IsSome (if same then item_cell item.1 else cell_at later number)
        → (IsSome (cell_at later number) → number < first) → number < first
    by_test true is found rest =
        omega (
          arith,
          number-below first item (All-head (IsBelow first) item later below),
          eqb-true item.0 number is,
        )
    by_test false is found rest = rest found

pub above-of : (cover : CoverValue) (items : List Numbered) (first : ℕ) → IsCoverOf cover items
    → All (IsBelow first) items → IsAbove first cover
above-of cover items first of below number some =
    cell_at-below first items below number (subst IsSome (of.celled number) some)

-- no more items are new than twice the days
pub new_items-few : (charges : ℕ → List Charge) (due : ℕ → Option Cell) (day count : ℕ)
    → length (new_items charges due day count) ≤ 2 * count
unfolding new_repairs new_bills
new_items-few charges due day count =
    let wrong = λ (d : ℕ). wrong_among (charges d) (due d) in
    let missing = λ (d : ℕ). missing_among (charges d) (due d) in
    omega (
      arith,
      length-append (map repair_of (runs nat_eq wrong day count))
          (map bill_of (runs same_cell missing day count)),
      length-map (runs nat_eq wrong day count) repair_of,
      length-map (runs same_cell missing day count) bill_of,
      runs-length nat_eq wrong day count,
      runs-length same_cell missing day count,
    )

-- a cover wants the new items that its items want
pub new_items-of : (cover : CoverValue) (items : List Numbered) (due : ℕ → Option Cell) (day count : ℕ)
    → IsCoverOf cover items
    → new_items (charges cover) due day count ≡ new_items (charges_on items) due day count
new_items-of cover items due day count of =
    new_items-agree (charges cover) (charges_on items) due day count (λ d low high. of.charged d)

-- the same is wanted by due cells that are the same each day
pub new_items-due : (charges : ℕ → List Charge) (due same : ℕ → Option Cell) (day count : ℕ)
    → ((d : ℕ) → due d ≡ same d) → new_items charges due day count ≡ new_items charges same day count
unfolding new_repairs new_bills
new_items-due charges due same day count agree =
    ap₂ (λ repairs bills. map repair_of repairs ++ map bill_of bills)
    (runs-same-key nat_eq (λ d. wrong_among (charges d) (due d))
    (λ d. wrong_among (charges d) (same d)) day count
    (λ d low high. ap (wrong_among (charges d)) (agree d)))
    (runs-same-key same_cell (λ d. missing_among (charges d) (due d))
    (λ d. missing_among (charges d) (same d)) day
    count
    (λ d low high. ap (missing_among (charges d)) (agree d)))

-- numbers that are below one are below a higher one
pub higher : (first past : ℕ) (items : List Numbered) → first ≤ past → All (IsBelow first) items
    → All (IsBelow past) items
higher first past items high below =
    All-weaker (IsBelow first) (IsBelow past) (IsBelow-higher first past high) items below

-- with the new items, all numbers are below the one past theirs
pub below-new : (items all : List Numbered) (due : ℕ → Option Cell) (first : ℕ) (new same : List NewItem)
    → All (IsBelow first) items → new ≡ new_items (charges_on items) due first_day charged_days → same ≡ new
    → all ≡ items ++ numbered first same → All (IsBelow (first + length new)) all
below-new items all due first new same below are is all_are =
    let added : List NewItem = new_items (charges_on items) due first_day charged_days in
    subst (λ (n : ℕ). All (IsBelow n) all) (ap (λ (l : List NewItem). first + length l) (sym are))
    (subst (λ (l : List Numbered). All (IsBelow (first + length added)) l)
    (ap (λ (l : List NewItem). items ++ numbered first l) (sym (is ∙ are)) ∙ sym all_are)
    (below-added items due first first_day charged_days below))

pub ruleset coverages = (new_items-of, new_items-few)

pub ruleset no_items = (no_cover-of)
