-- The numbers of the unpaid invoices, looked through from the lowest one on.
use Rattle.std.proofs.Common.{◌≡◌, ℕ, suc, ◌+◌, ◌-◌, ◌<◌, ◌≤◌, Bool, true, false, if◌then◌else◌, nat_lt, List}
use Rattle.std.proofs.Common.{[], ◌∷◌, Some, None, refl, ap, subst, slice_get, arith}
use Rattle.std.specs.List.{find, filter}
use Rattle.std.proofs.lemmas.Bool.{lt-ltb, le-ltb, ltb-true, ltb-false}
use Rattle.std.proofs.lemmas.Option.{none-some}
use Rattle.kb_credit.specs.declared.row.Row.{Row}
use Rattle.kb_credit.specs.InvoiceRows.{is_unpaid, unpaid_numbers}

-- what is found passes
pub find-passes : {A : Type 0} (test : A → Bool) (members : List A) (found : A)
    → find test members ≡ Some found → test found ≡ true
find-passes test [] found is = absurd (none-some found is)
find-passes {A} test (member ∷ later) found is = by_test (test member) refl (find-passes test later found)
  where
    by_test : (passes : Bool) → test member ≡ passes → (find test later ≡ Some found → test found ≡ true)
        → test found ≡ true
    by_test true e rest = let same : member ≡ found = let here = rw e at is in cc in rw (← same) e
    by_test false e rest = rest (rw e at is)

-- where none passes one test, none passes it and another one
pub find-filter_none : {A : Type 0} (first test : A → Bool) (members : List A) → find first members ≡ None
    → find test (filter first members) ≡ None
find-filter_none first test [] none = refl
find-filter_none {A} first test (member ∷ later) none =
    by_test (first member) refl (find-filter_none first test later)
  where
    by_test : (passes : Bool) → first member ≡ passes
        → (find first later ≡ None → find test (filter first later) ≡ None)
        → find test (filter first (member ∷ later)) ≡ None
    by_test true e rest = let here = rw e at none in absurd (cc)
    by_test false e rest = rw e (rest (rw e at none))

-- the first that passes one test is found by another one that it passes
pub find-filter_first : {A : Type 0} (first test : A → Bool) (members : List A) (found : A)
    → find first members ≡ Some found → test found ≡ true → find test (filter first members) ≡ Some found
find-filter_first first test [] found is passes = absurd (none-some found is)
find-filter_first {A} first test (member ∷ later) found is passes =
    by_test (first member) refl (λ is. find-filter_first first test later found is passes)
  where
    by_test : (passed : Bool) → first member ≡ passed
        → (find first later ≡ Some found → find test (filter first later) ≡ Some found)
        → find test (filter first (member ∷ later)) ≡ Some found
    by_test true e rest =
        let same : member ≡ found = let here = rw e at is in cc in
        let also : test member ≡ true = rw same passes in
        rw (e, also, same) refl
    by_test false e rest = rw e (rest (rw e at is))

-- all numbers from one on come after a lower one
pub filter-unpaid_numbers : (last number : ℕ) (rows : List Row) → last < number
    → filter (nat_lt last) (unpaid_numbers number rows) ≡ unpaid_numbers number rows
filter-unpaid_numbers last number [] below = refl
filter-unpaid_numbers last number (row ∷ rows) below =
    by_test (is_unpaid row) (filter-unpaid_numbers last (number + 1) rows (omega arith))
  where
    by_test : (unpaid : Bool)
        → filter (nat_lt last) (unpaid_numbers (number + 1) rows) ≡ unpaid_numbers (number + 1) rows
        → filter (nat_lt last)
        (if unpaid then number ∷ unpaid_numbers (number + 1) rows else unpaid_numbers (number + 1) rows)
        ≡ (if unpaid then number ∷ unpaid_numbers (number + 1) rows else unpaid_numbers (number + 1) rows)
    by_test true rest =
        let later : nat_lt last number ≡ true = lt-ltb last number below in
        rw later (ap (λ numbers. number ∷ numbers) rest)
    by_test false rest = rest

-- the lowest number after another one is passed over where it fails a test
pub find-unpaid_numbers : (test : ℕ → Bool) (last found number : ℕ) (rows : List Row)
    → find (nat_lt last) (unpaid_numbers number rows) ≡ Some found → test found ≡ false
    → find test (filter (nat_lt last) (unpaid_numbers number rows))
    ≡ find test (filter (nat_lt found) (unpaid_numbers number rows))
find-unpaid_numbers test last found number [] is fails = absurd (none-some found is)
find-unpaid_numbers test last found number (row ∷ rows) is fails =
    by_row (is_unpaid row) is (λ is. find-unpaid_numbers test last found (number + 1) rows is fails)
  where
    by_number : (later : Bool) → nat_lt last number ≡ later
        → find (nat_lt last) (number ∷ unpaid_numbers (number + 1) rows) ≡ Some found
        → (find (nat_lt last) (unpaid_numbers (number + 1) rows) ≡ Some found
        → find test (filter (nat_lt last) (unpaid_numbers (number + 1) rows))
        ≡ find test (filter (nat_lt found) (unpaid_numbers (number + 1) rows)))
        → find test (filter (nat_lt last) (number ∷ unpaid_numbers (number + 1) rows))
        ≡ find test (filter (nat_lt found) (number ∷ unpaid_numbers (number + 1) rows))
    by_number true e is rest =
        let same : number ≡ found = let here = rw e at is in cc in
        let after : last < number = ltb-true last number e in
        let fails_here : test number ≡ false = rw same fails in
        let not_after : nat_lt found number ≡ false = le-ltb found number (omega arith) in
        let left = filter-unpaid_numbers last (number + 1) rows (omega arith) in
        let right = filter-unpaid_numbers found (number + 1) rows (omega arith) in
        rw (e, fails_here, left, not_after, right) refl
    by_number false e is rest =
        let behind = rw e at is in
        let before : number ≤ last = ltb-false last number e in
        let passes : nat_lt last found ≡ true =
        find-passes (nat_lt last) (unpaid_numbers (number + 1) rows) found behind in
        let after : last < found = ltb-true last found passes in
        let not_after : nat_lt found number ≡ false = le-ltb found number (omega arith) in
        rw (e, not_after) (rest behind)

    by_row : (unpaid : Bool)
        → find (nat_lt last)
        (if unpaid then number ∷ unpaid_numbers (number + 1) rows else unpaid_numbers (number + 1) rows)
        ≡ Some found
        → (find (nat_lt last) (unpaid_numbers (number + 1) rows) ≡ Some found
        → find test (filter (nat_lt last) (unpaid_numbers (number + 1) rows))
        ≡ find test (filter (nat_lt found) (unpaid_numbers (number + 1) rows)))
        → find test (filter (nat_lt last)
        (if unpaid then number ∷ unpaid_numbers (number + 1) rows else unpaid_numbers (number + 1) rows))
        ≡ find test (filter (nat_lt found)
        (if unpaid then number ∷ unpaid_numbers (number + 1) rows else unpaid_numbers (number + 1) rows))
    by_row true is rest = by_number (nat_lt last number) refl is rest
    by_row false is rest = rest is

-- a row that is unpaid stands at a place
pub record IsUnpaidAt (rows : List Row) (place : ℕ) : Type 0 where
  pub row : Row
  pub there : slice_get rows place ≡ Some row
  pub unpaid : is_unpaid row ≡ true

-- the same with one row more in front
unpaid_behind : (row : Row) (rows : List Row) (place : ℕ) → IsUnpaidAt rows place
    → IsUnpaidAt (row ∷ rows) (suc place)
unpaid_behind row rows place at = record { row = at.row; there = at.there; unpaid = at.unpaid }

-- a number that is found among those of unpaid rows is that of one
pub found-unpaid : (test : ℕ → Bool) (number found : ℕ) (rows : List Row)
    → find test (unpaid_numbers number rows) ≡ Some found
    → (number ≤ found) × IsUnpaidAt rows (found - number)
found-unpaid test number found [] is = absurd (none-some found is)
found-unpaid test number found (row ∷ rows) is =
    by_row (is_unpaid row) refl (test number) refl (found-unpaid test (number + 1) found rows)
  where
    behind : (number + 1 ≤ found) × IsUnpaidAt rows (found - (number + 1))
        → (number ≤ found) × IsUnpaidAt (row ∷ rows) (found - number)
    behind rest =
        let low : number + 1 ≤ found = rest.0 in
        let place : suc (found - (number + 1)) ≡ found - number = omega arith in
        (omega arith, subst (IsUnpaidAt (row ∷ rows)) place (unpaid_behind row rows _ rest.1))

    by_row : (unpaid : Bool) → is_unpaid row ≡ unpaid → (passes : Bool) → test number ≡ passes
        → (find test (unpaid_numbers (number + 1) rows) ≡ Some found
        → (number + 1 ≤ found) × IsUnpaidAt rows (found - (number + 1)))
        → (number ≤ found) × IsUnpaidAt (row ∷ rows) (found - number)
    by_row false e passes t rest = behind (rest (rw e at is))
    by_row true e false t rest = behind (rest (rw (e, t) at is))
    by_row true e true t rest =
        let same : number ≡ found = let here = rw (e, t) at is in cc in
        let place : 0 ≡ found - number = omega arith in
        (omega arith, subst (IsUnpaidAt (row ∷ rows)) place (record { row = row; there = refl; unpaid = e }))
