-- Bills whose numbers rise: where a number stands among them, and what a map of them has at it.
use Rattle.std.proofs.Common.{◌≡◌, ℕ, zero, suc, ◌+◌, ◌<◌, ◌≤◌, true, false, ◌==◌, cond, List, [], ◌∷◌}
use Rattle.std.proofs.Common.{◌++◌, if◌then◌else◌, length, Option, Some, None, IsSome, refl, sym, ap, subst}
use Rattle.std.proofs.Common.{◌∙◌, arith, inl, inr}
use Rattle.std.proofs.lemmas.Bool.{eq-eqb, ne_eqb, cond-true, cond-false, cases_Bool, cases_lt}
use Rattle.std.proofs.lemmas.Cmp.{nat_list_cmp_total}
use Rattle.std.proofs.lemmas.List.{map-append}
use Rattle.std.proofs.lemmas.List.Quantifiers.{all_pairs_push}
use Rattle.std.proofs.lemmas.Option.{get_or_from_slice_get, slice_get_within, slice_get_past}
use Rattle.std.specs.FinMap as map_of
use Rattle.std.specs.FinMap.Entries.{find}
use Rattle.std.specs.FinMap.{get-from_entries, from_entries_push}
use Rattle.std.specs.List.{AllWithin, slice_get, slice_index_or}
use Rattle.std.specs.List.Sorted.{IsPartitionPoint}
use Rattle.kb_sharing.specs.Keys.{by_words}
use Rattle.kb_due.specs.declared.cell.Cell.{Cell}
use Rattle.kb_tree.specs.Private.RisingBills.{NumberedCell, worded, IsRising, AreBelow}
use Rattle.kb_tree.proofs.CellMaps.{words_tie}

-- the bills up to one with a number below another
pub below-upto : (bills : List NumberedCell) (number place : ℕ) (bill : NumberedCell) → IsRising bills
    → slice_get bills place ≡ Some bill → bill.0 < number
    → AllWithin (λ (bill : NumberedCell). bill.0 < number) bills 0 (place + 1)
below-upto bills number place bill rising there below k d low high =
    let at : slice_index_or bills place d ≡ bill = get_or_from_slice_get bills place bill d there in
    let inside : place < length bills = slice_get_within bills place bill there in
    elim (cases_lt k place) [
      | inl before ↦
          let less : (slice_index_or bills k d).0 < bill.0 =
          subst (λ (later : NumberedCell). (slice_index_or bills k d).0 < later.0) at
          (rising k place d before inside) in
          omega (arith, less, below)
      | inr behind ↦
          let same : place ≡ k = omega (arith, behind, high) in
          subst (λ k. (slice_index_or bills k d).0 < number) same
          (subst (λ (bill : NumberedCell). bill.0 < number) (sym at) below)
    ]

-- the bills from one on with a number that isn't
pub above-from : (bills : List NumberedCell) (number place : ℕ) (bill : NumberedCell) → IsRising bills
    → slice_get bills place ≡ Some bill → number ≤ bill.0
    → AllWithin (λ (bill : NumberedCell). number ≤ bill.0) bills place (length bills)
above-from bills number place bill rising there above k d low high =
    let at : slice_index_or bills place d ≡ bill = get_or_from_slice_get bills place bill d there in
    elim (cases_lt place k) [
      | inl behind ↦
          let more : bill.0 < (slice_index_or bills k d).0 =
          subst (λ (bill : NumberedCell). bill.0 < (slice_index_or bills k d).0) at
          (rising place k d behind high) in
          omega (arith, more, above)
      | inr before ↦
          let same : place ≡ k = omega (arith, before, low) in
          subst (λ k. number ≤ (slice_index_or bills k d).0) same
          (subst (λ (bill : NumberedCell). number ≤ bill.0) (sym at) above)
    ]

-- the cell at a number
cell_among : ℕ → List NumberedCell → Option Cell
cell_among number bills = find by_words (number ∷ []) (worded bills)

-- it is that of the first bill, or else stands behind it
among-more : (number : ℕ) (bill : NumberedCell) (later : List NumberedCell)
    → cell_among number (bill ∷ later)
    ≡ (if number == bill.0 then Some bill.1 else cell_among number later)
unfolding cell_among
among-more number bill later =
    ap (λ same. cond same (Some bill.1) (find by_words (number ∷ []) (worded later)))
    (words_tie number bill.0)

-- no bill has a number below all of them
among-above : (number : ℕ) (bills : List NumberedCell)
    → AllWithin (λ (bill : NumberedCell). number < bill.0) bills 0 (length bills)
    → cell_among number bills ≡ None
unfolding cell_among
among-above number [] above = refl
among-above number (bill ∷ later) above =
    let first : number < bill.0 = above 0 bill (omega arith) (omega arith) in
    among-more number bill later
    ∙ cond-false (number == bill.0) _ _ (ne_eqb number bill.0 (λ same. omega (arith, same, first)))
    ∙ among-above number later (λ k d low high. above (suc k) d (omega arith) (omega (arith, high)))

-- the cell of a bill, if it has a number
abbrev cell_if : ℕ → Option NumberedCell → Option Cell
cell_if number None = None
cell_if number (Some bill) = if number == bill.0 then Some bill.1 else None

-- the bill at the place where a number stands tells what is at the number
among-at : (number : ℕ) (bills : List NumberedCell) (place : ℕ) → IsRising bills
    → AllWithin (λ (bill : NumberedCell). bill.0 < number) bills 0 place
    → AllWithin (λ (bill : NumberedCell). number ≤ bill.0) bills place (length bills)
    → cell_among number bills ≡ cell_if number (slice_get bills place)
unfolding cell_among
among-at number [] place rising below above =
    ap (cell_if number) (sym (slice_get_past [] place (omega arith)))
among-at number (bill ∷ later) zero rising below above =
    among-more number bill later ∙ elim (cases_Bool (number == bill.0)) [
      | inl same ↦ rw same refl
      | inr other ↦ rw other (among-above number later (λ k d low high.
          let more : bill.0 < (slice_index_or later k d).0 =
          rising 0 (suc k) d (omega arith) (omega (arith, high)) in
          let first : number ≤ bill.0 = above 0 d (omega arith) (omega arith) in
          omega (arith, more, first)))
    ]
among-at number (bill ∷ later) (suc place) rising below above =
    let first : bill.0 < number = below 0 bill (omega arith) (omega arith) in
    among-more number bill later
    ∙ cond-false (number == bill.0) _ _ (ne_eqb number bill.0 (λ same. omega (arith, same, first)))
    ∙ among-at number later place
    (λ i j d before inside. rising (suc i) (suc j) d (omega (arith, before)) (omega (arith, inside)))
    (λ k d low high. below (suc k) d (omega arith) (omega (arith, high)))
    (λ k d low high. above (suc k) d (omega (arith, low)) (omega (arith, high)))

-- what the map of bills has at a number, whose place among them is known
module _ (number : ℕ) (bills : List NumberedCell) (place : ℕ) (rising : IsRising bills)
    (at : IsPartitionPoint (λ (bill : NumberedCell). bill.0 < number)
    (λ (bill : NumberedCell). number ≤ bill.0) bills place) where
  get-at : map_of.get (map_of.from_entries {R = by_words} (worded bills)) (number ∷ [])
      ≡ cell_if number (slice_get bills place)
  unfolding cell_among
  get-at =
      get-from_entries nat_list_cmp_total (worded bills) (number ∷ [])
      ∙ among-at number bills place rising at.0 at.1

  pub get-none : slice_get bills place ≡ None
      → map_of.get (map_of.from_entries {R = by_words} (worded bills)) (number ∷ []) ≡ None
  get-none none = get-at ∙ ap (cell_if number) none

  pub get-same : (bill : NumberedCell) → slice_get bills place ≡ Some bill → number ≡ bill.0
      → map_of.get (map_of.from_entries {R = by_words} (worded bills)) (number ∷ []) ≡ Some bill.1
  get-same bill there same =
      get-at ∙ ap (cell_if number) there ∙ cond-true (number == bill.0) _ _ (eq-eqb number bill.0 same)

  pub get-other : (bill : NumberedCell) → slice_get bills place ≡ Some bill → (number ≡ bill.0 → ⊥)
      → map_of.get (map_of.from_entries {R = by_words} (worded bills)) (number ∷ []) ≡ None
  get-other bill there other =
      get-at ∙ ap (cell_if number) there ∙ cond-false (number == bill.0) _ _ (ne_eqb number bill.0 other)

-- a number above those of all bills has no cell
higher-none : (bills : List NumberedCell) (number : ℕ)
    → AreBelow (map_of.from_entries {R = by_words} (worded bills)) number → cell_among number bills ≡ None
unfolding cell_among
higher-none bills number higher =
    elim (cell_among number bills) as (λ found. cell_among number bills ≡ found → found ≡ None) [
      | None ↦ λ is. refl
      | Some cell ↦ λ is.
          let known =
          subst IsSome (sym (get-from_entries nat_list_cmp_total (worded bills) (number ∷ []) ∙ is))
          refl in
          let below : number < number = higher number known in absurd (omega (arith, below))
    ] refl

-- each bill has one
there-among : (bills : List NumberedCell) (place : ℕ) (d : NumberedCell) → place < length bills
    → IsSome (cell_among (slice_index_or bills place d).0 bills)
unfolding cell_among
there-among [] place d inside = absurd (omega (arith, inside))
there-among (bill ∷ later) zero d inside =
    subst IsSome (sym (among-more bill.0 bill later
    ∙ cond-true (bill.0 == bill.0) _ _ (eq-eqb bill.0 bill.0 refl))) refl
there-among (bill ∷ later) (suc place) d inside =
    let number = (slice_index_or later place d).0 in
    subst IsSome (sym (among-more number bill later)) (elim (number == bill.0) as (λ same.
    IsSome (cond same (Some bill.1) (cell_among number later))) [
      | true ↦ refl
      | false ↦ there-among later place d (omega (arith, inside))
    ])

-- bills with another one, whose number is above all others, rise
pub rising-with : (bills : List NumberedCell) (number : ℕ) (cell : Cell) → IsRising bills
    → AreBelow (map_of.from_entries {R = by_words} (worded bills)) number
    → IsRising (bills ++ (number, cell) ∷ [])
unfolding cell_among
rising-with bills number cell rising higher =
    all_pairs_push (λ (bill later : NumberedCell). bill.0 < later.0) bills (number, cell) rising
    (λ k d inside. higher (slice_index_or bills k d).0
    (subst IsSome (sym (get-from_entries nat_list_cmp_total (worded bills)
    ((slice_index_or bills k d).0 ∷ []))) (there-among bills k d inside)))

-- and their map has that number's cell
pub more-with : (bills : List NumberedCell) (number : ℕ) (cell : Cell)
    → AreBelow (map_of.from_entries {R = by_words} (worded bills)) number
    → map_of.from_entries {R = by_words} (worded (bills ++ (number, cell) ∷ []))
    ≡ map_of.insert (map_of.from_entries {R = by_words} (worded bills)) (number ∷ []) cell
unfolding cell_among
more-with bills number cell higher =
    ap (map_of.from_entries {R = by_words}) (map-append _ bills ((number, cell) ∷ []))
    ∙ from_entries_push nat_list_cmp_total (map_of.slice_cmp-IsAntisymmetric map_of.nat_cmp-IsAntisymmetric)
    (worded bills) (number ∷ []) cell (higher-none bills number higher)
