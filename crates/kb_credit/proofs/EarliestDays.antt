-- The least of some days is one of them, and none is earlier; without an unpaid invoice there is none.
use Rattle.std.proofs.Common.{◌≡◌, ◌↔◌, ℕ, suc, ◌≤◌, Bool, true, false, cond, List, [], ◌∷◌, pos}
use Rattle.std.proofs.Common.{min, Option, Some, None, refl, ap, ◌∙◌, sym, arith}
use Rattle.std.proofs.Common.{All, Contains, ⊎_elim, map}
use Rattle.std.specs.List.{filter}
use Rattle.std.specs.Int.{int_max}
use Rattle.std.proofs.lemmas.Int.{ints, clamps}
use Rattle.std.proofs.lemmas.Bool.{cases_lt}
use Rattle.std.proofs.lemmas.List.Elements.{All-nil, All-cons, All-weaker}
use Rattle.kb_credit.specs.declared.row.Row.{Row}
use Rattle.kb_credit.specs.InvoiceRows.{balance_of, is_unpaid, unpaid_of, unpaid, at_most, least}
use Rattle.kb_credit.specs.InvoiceRows.{earliest_unpaid}
use Rattle.kb_credit.proofs.ClosedForm.{unpaid-least}
use Rattle.kb_credit.proofs.RowBalances.{int_max-least}

-- a member behind another
behind : (first day : ℕ) (later : List ℕ) → Contains later day → Contains (first ∷ later) day
behind first day later there = (suc there.0, (let low = there.1 in omega (arith, low)), there.2)

-- the least is one of them
pub Contains-least : (days : List ℕ) (day : ℕ) → least days ≡ Some day → Contains days day
Contains-least [] day is = absurd (cc)
Contains-least (first ∷ later) day is = by (least later) refl (Contains-least later)
  where
    by : (found : Option ℕ) → least later ≡ found
        → ((day : ℕ) → least later ≡ Some day → Contains later day) → Contains (first ∷ later) day
    by None none rest =
        let whole : Some (at_most first None) ≡ Some day =
        ap (λ other. Some (at_most first other)) (sym none) ∙ is in
        let same : first ≡ day = cc in
        (0, omega arith, same)
    by (Some found) one rest =
        let whole : Some (min first found) ≡ Some day =
        ap (λ other. Some (at_most first other)) (sym one) ∙ is in
        let same : min first found ≡ day = cc in
        ⊎_elim
        (λ low. (0, omega arith, (let e : first ≡ day = omega (arith, low, same) in e)))
        (λ high. behind first day later
        (rest day (one ∙ ap Some (let e : found ≡ day = omega (arith, high, same) in e))))
        (cases_lt first found)

-- none is earlier
pub All-least : (days : List ℕ) (day : ℕ) → least days ≡ Some day → All (λ (other : ℕ). day ≤ other) days
All-least [] day is = absurd (cc)
All-least (first ∷ later) day is = by later (least later) refl is (All-least later)
  where
    by : (later : List ℕ) (found : Option ℕ) → least later ≡ found → least (first ∷ later) ≡ Some day
        → ((day : ℕ) → least later ≡ Some day → All (λ (other : ℕ). day ≤ other) later)
        → All (λ (other : ℕ). day ≤ other) (first ∷ later)
    by [] found none whole rest =
        let same : first ≡ day = cc in
        All-cons (λ (other : ℕ). day ≤ other) first [] (omega (arith, same))
        (All-nil (λ (other : ℕ). day ≤ other))
    by (second ∷ later) None none whole rest = absurd (cc)
    by (second ∷ later) (Some found) one whole rest =
        let both : Some (min first found) ≡ Some day =
        ap (λ other. Some (at_most first other)) (sym one) ∙ whole in
        let same : min first found ≡ day = cc in
        All-cons (λ (other : ℕ). day ≤ other) first (second ∷ later) (omega (arith, same))
        (All-weaker (λ (other : ℕ). found ≤ other) (λ (other : ℕ). day ≤ other)
        (λ other low. omega (arith, low, same)) (second ∷ later) (rest found one))

-- nothing is unpaid where there is none
none_unpaid : (rows : List Row) → earliest_unpaid rows ≡ None → unpaid rows ≡ pos 0
none_unpaid [] none = refl
none_unpaid (row ∷ rows) none = by (is_unpaid row) refl none (none_unpaid rows)
  where
    by : (test : Bool) → is_unpaid row ≡ test
        → least (map (λ (row : Row). row.day)
        (cond test (row ∷ filter is_unpaid rows) (filter is_unpaid rows)))
        ≡ None
        → (earliest_unpaid rows ≡ None → unpaid rows ≡ pos 0) → unpaid (row ∷ rows) ≡ pos 0
    by true owed none later = absurd (cc)
    by false settled none later =
        let rest = later none in
        let here : int_max (pos 0) (balance_of row) ≡ pos 0 = omega (arith, ints, clamps, settled) in
        omega (arith, ints)

-- and the other way round
none_earliest : (rows : List Row) → unpaid rows ≡ pos 0 → earliest_unpaid rows ≡ None
none_earliest [] none = refl
none_earliest (row ∷ rows) none =
    let here = int_max-least (balance_of row) in
    let later = unpaid-least rows in
    by (is_unpaid row) refl (omega (arith, ints)) (none_earliest rows (omega (arith, ints)))
  where
    by : (test : Bool) → is_unpaid row ≡ test → unpaid_of row ≡ pos 0 → earliest_unpaid rows ≡ None
        → least (map (λ (row : Row). row.day)
        (cond test (row ∷ filter is_unpaid rows) (filter is_unpaid rows)))
        ≡ None
    by true owed nothing later = absurd (omega (arith, ints, clamps, owed, nothing))
    by false settled nothing later = later

pub earliest_unpaid-none : (rows : List Row) → (earliest_unpaid rows ≡ None) ↔ (unpaid rows ≡ pos 0)
earliest_unpaid-none rows = (none_unpaid rows, none_earliest rows)
