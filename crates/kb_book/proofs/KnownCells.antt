-- Items that are added leave each charge by the cell of the item of its number.
use Rattle.std.proofs.Common.{◌≡◌, ℕ, ◌+◌, ◌<◌, ◌≤◌, Bool, true, false, not, ◌==◌, ◌&&◌, ◌||◌, List, [], ◌∷◌}
use Rattle.std.proofs.Common.{◌++◌, if◌then◌else◌, Some, All, refl, sym, subst, ◌∙◌, arith}
use Rattle.std.specs.List.{flat_map}
use Rattle.std.proofs.lemmas.Bool.{eqb-true, eq-eqb}
use Rattle.std.proofs.lemmas.Option.{none-some}
use Rattle.std.proofs.lemmas.List.Concat.{flat_map-append}
use Rattle.std.proofs.lemmas.List.Folds.{list_any-append}
use Rattle.std.proofs.lemmas.List.Elements.{All-nil, All-cons, All-head, All-tail, All-append, All-weaker}
use Rattle.kb_due.specs.declared.cell.Cell.{Cell}
use Rattle.kb_tree.specs.declared.item.NewItem.{NewItem}
use Rattle.kb_tree.specs.declared.item.NewItem.TheVariants.{Bill, Repair}
use Rattle.kb_tree.specs.Items.{Numbered, Charge, covers, repairs, is_repaired, charge_of, numbered}
use Rattle.kb_tree.specs.Items.{item_cell, cell_at}
use Rattle.kb_tree.specs.Covers.{IsBelow}
use Rattle.kb_book.specs.BilledBooks.{KnowsCells}

-- the charges by some items, where all of some items may repair them
abbrev charges_by : List Numbered → ℕ → List Numbered → List Charge
charges_by all day items = flat_map (λ (item : Numbered). charge_of all day item.0 item.1) items

-- a bill's charge, where it has the day and isn't repaired
abbrev charge_if : Bool → Bool → Charge → List Charge
charge_if covered repaired charge = if covered && not repaired then charge ∷ [] else []

module _ (P : Charge → Type 0) where
  -- what holds of a charge that may be there, and of others, where it may be repaired once more
  fewer : (covered repaired taken : Bool) (charge : Charge) (old new : List Charge)
      → (All P old → All P new) → All P (charge_if covered repaired charge ++ old)
      → All P (charge_if covered (repaired || taken) charge ++ new)
  fewer false repaired taken charge old new rest all = rest all
  fewer true true taken charge old new rest all = rest all
  fewer true false false charge old new rest all =
      All-cons P charge new (All-head P charge old all) (rest (All-tail P charge old all))
  fewer true false true charge old new rest all = rest (All-tail P charge old all)

  -- what holds of the charges by some items holds of those that are left where more items are added
  left-holds : (all more : List Numbered) (day : ℕ) (items : List Numbered) → All P (charges_by all day items)
      → All P (charges_by (all ++ more) day items)
  left-holds all more day [] holds = All-nil P
  left-holds all more day ((number, Bill from to cell) ∷ later) holds =
      let charge : Charge = record { number = number; cell = cell } in
      let old = charges_by all day later in
      let new = charges_by (all ++ more) day later in
      subst (λ (repaired : Bool). All P (charge_if (covers from to day) repaired charge ++ new))
      (sym (list_any-append (λ (item : Numbered). repairs number day item.1) all more))
      (fewer (covers from to day) (is_repaired all number day) (is_repaired more number day) charge old new
      (left-holds all more day later) holds)
  left-holds all more day ((number, Repair of from to) ∷ later) holds = left-holds all more day later holds

-- a cell that is found is found among more items
cell_at-more : (items more : List Numbered) (number : ℕ) (cell : Cell) → cell_at items number ≡ Some cell
    → cell_at (items ++ more) number ≡ Some cell
cell_at-more [] more number cell is = absurd (none-some cell is)
cell_at-more (item ∷ later) more number cell is =
    by_test (item.0 == number) is (cell_at-more later more number cell)
  where
    by_test : (same : Bool) → (if same then item_cell item.1 else cell_at later number) ≡ Some cell
        → (cell_at later number ≡ Some cell → cell_at (later ++ more) number ≡ Some cell)
        → (if same then item_cell item.1 else cell_at (later ++ more) number) ≡ Some cell
    by_test true here rest = here
    by_test false here rest = rest here

-- an item that is below a number has another one
other_number : (first number : ℕ) (item : Numbered) → IsBelow first item → first ≤ number → item.0 < number
other_number first number (own, Bill from to cell) below high = omega arith
other_number first number (own, Repair of from to) below high = omega (arith, below.0)

-- items of lower numbers hide no cell
cell_at-past : (items more : List Numbered) (first number : ℕ) → All (IsBelow first) items → first ≤ number
    → cell_at (items ++ more) number ≡ cell_at more number
cell_at-past [] more first number below high = refl
cell_at-past (item ∷ later) more first number below high =
    by_test (item.0 == number) refl
    (other_number first number item (All-head (IsBelow first) item later below) high)
    (cell_at-past later more first number (All-tail (IsBelow first) item later below) high)
  where
    by_test : (same : Bool) → (item.0 == number) ≡ same → item.0 < number
        → cell_at (later ++ more) number ≡ cell_at more number
        → (if item.0 == number then item_cell item.1 else cell_at (later ++ more) number)
        ≡ cell_at more number
    by_test true is low rest = absurd (omega (arith, eqb-true item.0 number is))
    by_test false is low rest = rw is rest

-- a charge has the number of a new item, and is by its cell
abbrev IsNew : ℕ → List NewItem → Charge → Type 0
IsNew first news charge =
    (first ≤ charge.number) × (cell_at (numbered first news) charge.number ≡ Some charge.cell)

-- it is so among one more
new-later : (first : ℕ) (item : NewItem) (later : List NewItem) (charge : Charge)
    → IsNew (first + 1) later charge
    → IsNew first (item ∷ later) charge
new-later first item later charge is = by_test (first == charge.number) refl
  where
    by_test : (same : Bool) → (first == charge.number) ≡ same → IsNew first (item ∷ later) charge
    by_test true same = absurd (omega (arith, is.0, eqb-true first charge.number same))
    by_test false same = (omega (arith, is.0), rw same is.1)

-- and the first is so
new-first : (first from to : ℕ) (cell : Cell) (later : List NewItem)
    → IsNew first (Bill from to cell ∷ later) (record { number = first; cell = cell })
new-first first from to cell later = (omega arith, rw (eq-eqb first first refl) refl)

-- the charges by numbered items are so
news-known : (all : List Numbered) (day first : ℕ) (news : List NewItem)
    → All (IsNew first news) (charges_by all day (numbered first news))
news-known all day first [] = All-nil (IsNew first [])
news-known all day first (Bill from to cell ∷ later) =
    by_test (covers from to day && not (is_repaired all first day))
    (All-weaker (IsNew (first + 1) later) (IsNew first (Bill from to cell ∷ later))
    (new-later first (Bill from to cell) later) (charges_by all day (numbered (first + 1) later))
    (news-known all day (first + 1) later))
  where
    by_test : (charged : Bool)
        → All (IsNew first (Bill from to cell ∷ later)) (charges_by all day (numbered (first + 1) later))
        → All (IsNew first (Bill from to cell ∷ later))
        ((if charged then record { number = first; cell = cell } ∷ [] else [])
        ++ charges_by all day (numbered (first + 1) later))
    by_test true rest =
        All-cons (IsNew first (Bill from to cell ∷ later)) (record { number = first; cell = cell })
        (charges_by all day (numbered (first + 1) later)) (new-first first from to cell later) rest
    by_test false rest = rest
news-known all day first (Repair of from to ∷ later) =
    All-weaker (IsNew (first + 1) later) (IsNew first (Repair of from to ∷ later))
    (new-later first (Repair of from to) later) (charges_by all day (numbered (first + 1) later))
    (news-known all day (first + 1) later)

-- with items behind them, each charge is still by the cell of the item of its number
pub knows-added : (items : List Numbered) (first : ℕ) (news : List NewItem) → KnowsCells items
    → All (IsBelow first) items → KnowsCells (items ++ numbered first news)
knows-added items first news known below day =
    let all = items ++ numbered first news in
    let knows : Charge → Type 0 = λ charge. cell_at all charge.number ≡ Some charge.cell in
    let left : All knows (charges_by all day items) =
    All-weaker (λ (charge : Charge). cell_at items charge.number ≡ Some charge.cell) knows
    (λ charge here. cell_at-more items (numbered first news) charge.number charge.cell here)
    (charges_by all day items)
    (left-holds (λ (charge : Charge). cell_at items charge.number ≡ Some charge.cell) items
    (numbered first news) day items (known day)) in
    let new : All knows (charges_by all day (numbered first news)) =
    All-weaker (IsNew first news) knows
    (λ charge here. cell_at-past items (numbered first news) first charge.number below here.0 ∙ here.1)
    (charges_by all day (numbered first news)) (news-known all day first news) in
    subst (All knows)
    (sym (flat_map-append (λ (item : Numbered). charge_of all day item.0 item.1) items (numbered first news)))
    (All-append knows (charges_by all day items) (charges_by all day (numbered first news)) left new)
