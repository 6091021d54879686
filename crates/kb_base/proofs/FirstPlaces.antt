-- The first place that passes a test: where it is, and what is known where there is none.
use Rattle.std.proofs.Common.{◌≡◌, ℕ, zero, suc, ◌+◌, ◌-◌, ◌<◌, ◌≤◌, Bool, true, false, if◌then◌else◌, Option}
use Rattle.std.proofs.Common.{Some, None, inl, inr, arith, refl}
use Rattle.std.proofs.lemmas.Bool.{cases_lt}
use Rattle.kb_base.specs.Offenders.{first_place, first_place_from}

-- from a place on, none is found where none passes
first_place_from-none : (test : ℕ → Bool) (place count : ℕ)
    → ((k : ℕ) → place ≤ k → k < place + count → test k ≡ false) → first_place_from test place count ≡ None
first_place_from-none test place zero fails = refl
first_place_from-none test place (suc count) fails =
    let here : test place ≡ false = fails place (omega arith) (omega arith) in
    rw here (first_place_from-none test (place + 1) count
    (λ (k : ℕ) (from : place + 1 ≤ k) (to : k < place + 1 + count). fails k (omega arith) (omega arith)))

-- no place is found where none passes
pub first_place-none : (test : ℕ → Bool) (count : ℕ) → ((k : ℕ) → k < count → test k ≡ false)
    → first_place test count ≡ None
first_place-none test count fails =
    first_place_from-none test 0 count (λ (k : ℕ) (from : 0 ≤ k) (to : k < 0 + count). fails k (omega arith))

-- from a place on, the one is found that passes where none before it does
first_place_from-some : (test : ℕ → Bool) (place count found : ℕ) → place ≤ found → found < place + count
    → test found ≡ true → ((k : ℕ) → place ≤ k → k < found → test k ≡ false)
    → first_place_from test place count ≡ Some found
first_place_from-some test place zero found from to passes fails = absurd (omega arith)
first_place_from-some test place (suc count) found from to passes fails =
    elim (cases_lt place found) [
      | inl before ↦
          let here : test place ≡ false = fails place (omega arith) before in
          rw here (first_place_from-some test (place + 1) count found (omega arith) (omega arith) passes
          (λ (k : ℕ) (from : place + 1 ≤ k) (to : k < found). fails k (omega arith) to))
      | inr past ↦
          let same : found ≡ place = omega arith in
          let here : test place ≡ true = rw same at passes in
          rw (here, same) refl
    ]

-- the place is found that passes where none before it does
pub first_place-some : (test : ℕ → Bool) (count found : ℕ) → found < count → test found ≡ true
    → ((k : ℕ) → k < found → test k ≡ false) → first_place test count ≡ Some found
first_place-some test count found to passes fails =
    first_place_from-some test 0 count found (omega arith) (omega arith) passes
    (λ (k : ℕ) (from : 0 ≤ k) (to : k < found). fails k to)

-- a choice that gives no place comes from a test that fails
choice-none : (passes : Bool) (place : ℕ) (rest : Option ℕ) → (if passes then Some place else rest) ≡ None
    → (passes ≡ false) × (rest ≡ None)
choice-none true place rest none = absurd (cc)
choice-none false place rest none = (refl, none)

-- from a place on, each fails where none is found
first_place_from-fails : (test : ℕ → Bool) (place count k : ℕ) → first_place_from test place count ≡ None
    → place ≤ k → k < place + count → test k ≡ false
first_place_from-fails test place zero k none from to = absurd (omega arith)
first_place_from-fails test place (suc count) k none from to =
    let parts = choice-none (test place) place (first_place_from test (place + 1) count) none in
    elim (cases_lt place k) [
      | inl later ↦ first_place_from-fails test (place + 1) count k parts.1 (omega arith) (omega arith)
      | inr here ↦ let same : k ≡ place = omega arith in rw same parts.0
    ]

-- each place fails where none is found
pub first_place-fails : (test : ℕ → Bool) (count k : ℕ) → first_place test count ≡ None → k < count
    → test k ≡ false
first_place-fails test count k none to =
    first_place_from-fails test 0 count k none (omega arith) (omega arith)

-- the first place from one that passes on is that one
pub first_place_from-here : (test : ℕ → Bool) (place end : ℕ) → place < end → test place ≡ true
    → first_place_from test place (end - place) ≡ Some place
first_place_from-here test place end before passes =
    let more : end - place ≡ suc (end - (place + 1)) = omega arith in
    rw (more, passes) refl

-- the first place from one that fails on is that from the next one on
pub first_place_from-later : (test : ℕ → Bool) (place end : ℕ) → place < end → test place ≡ false
    → first_place_from test place (end - place) ≡ first_place_from test (place + 1) (end - (place + 1))
first_place_from-later test place end before fails =
    let more : end - place ≡ suc (end - (place + 1)) = omega arith in
    rw (more, fails) refl

-- from the end on there is none
pub first_place_from-past : (test : ℕ → Bool) (place end : ℕ) → end ≤ place
    → first_place_from test place (end - place) ≡ None
first_place_from-past test place end past =
    let no_more : end - place ≡ zero = omega arith in
    rw no_more refl

-- what a loop over the places knows at each
pub ruleset places = (first_place_from-here, first_place_from-later, first_place_from-past)
