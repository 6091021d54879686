-- Cuts that are passed, and the gap up to the next one.
use Rattle.std.proofs.Common.{◌≡◌, ℕ, ◌+◌, ◌<◌, ◌≤◌, ◌⊎◌, inl, inr, List, length, get_or, Contains, ap, ◌∙◌}
use Rattle.std.proofs.Common.{arith}
use Rattle.std.specs.List.Sorted.{IsNonDecreasing}
use Rattle.std.proofs.lemmas.Bool.{cases_lt}
use Rattle.std.proofs.lemmas.List.{get_or_default}
use Rattle.std.proofs.lemmas.List.Elements.{Contains-get_or}
use Rattle.kb_days.specs.Calendar.{end_of_days}
use Rattle.kb_events.specs.Private.Cuts.{AreTold, IsGap, ArePassed}

-- where so many are passed by a later day, one more is, if it is no later than that
pub ArePassed-next : (cuts : List ℕ) (place from to : ℕ) → ArePassed cuts place from → from ≤ to
    → get_or cuts place 0 ≤ to → ArePassed cuts (place + 1) to
ArePassed-next cuts place from to passed order here at within =
    elim (cases_lt at place) [
      | inl earlier ↦ let low = passed at earlier in omega (arith, low, order)
      | inr behind ↦
          let same : at ≡ place = omega (arith, behind, within) in
          omega (arith, ap (λ (other : ℕ). get_or cuts other 0) same, here)
    ]

-- no cut lies between the day by which all before one are passed and that one
pub IsGap-passed : (cuts : List ℕ) (place from : ℕ) → IsNonDecreasing cuts → ArePassed cuts place from
    → place < length cuts → IsGap cuts from (get_or cuts place 0)
IsGap-passed cuts place from rising passed inside day has later before = by_place (cases_lt has.0 place)
  where
    at : get_or cuts has.0 0 ≡ day
    at = get_or_default cuts has.0 0 day has.1 ∙ has.2

    by_place : (has.0 < place) ⊎ (place ≤ has.0) → ⊥
    by_place (inl earlier) = let low = passed has.0 earlier in absurd (omega (arith, low, at, later))
    by_place (inr behind) = let order =
        rising place has.0 0 behind has.1 in absurd (omega (arith, order, at, before))

-- where all are passed each is
pub Contains-passed : (cuts : List ℕ) (place from day : ℕ) → ArePassed cuts place from → length cuts ≤ place
    → Contains cuts day → day ≤ from
Contains-passed cuts place from day passed all has =
    let low = passed has.0 (omega (arith, has.1, all)) in
    let at : get_or cuts has.0 0 ≡ day = get_or_default cuts has.0 0 day has.1 ∙ has.2 in
    omega (arith, low, at)

-- a cut that is read comes from the cuts, and lies up to the end
pub cut-told : (cuts items : List ℕ) (place : ℕ) → items ≡ cuts → AreTold cuts → place < length items
    → get_or items place 0 ≤ end_of_days
cut-told cuts items place same told inside =
    let within : place < length cuts = omega (arith, ap (λ (days : List ℕ). length days) same, inside) in
    let high = told (get_or cuts place 0) (Contains-get_or cuts place 0 within) in
    omega (arith, high, ap (λ (days : List ℕ). get_or days place 0) same)
