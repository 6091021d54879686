-- What is known of a first place that is found.
use Rattle.std.proofs.Common.{◌≡◌, ℕ, zero, suc, ◌+◌, ◌<◌, ◌≤◌, Bool, true, false, if◌then◌else◌, Some}
use Rattle.std.proofs.Common.{inl, inr, arith, refl}
use Rattle.std.proofs.lemmas.Bool.{cases_lt}
use Rattle.kb_base.specs.Offenders.{first_place_from}

-- a place is the first of so many from one on that passes a test
pub record IsFirst (test : ℕ → Bool) (from count place : ℕ) : Type 0 where
  pub begins : from ≤ place
  pub ends : place < from + count
  pub passes : test place ≡ true
  pub before : (k : ℕ) → from ≤ k → k < place → test k ≡ false

-- the first from a place that fails on is the first from the next one on
later-first : (test : ℕ → Bool) (from count place : ℕ) → test from ≡ false
    → IsFirst test (from + 1) count place → IsFirst test from (suc count) place
later-first test from count place fails later =
    record {
      begins = omega (arith, later.begins);
      ends = omega (arith, later.ends);
      passes = later.passes;
      before = λ (k : ℕ) (begins : from ≤ k) (ends : k < place).
          elim (cases_lt from k) [
            | inl past ↦ later.before k (omega arith) ends
            | inr here ↦ let same : k ≡ from = omega arith in rw same fails
          ];
    }

-- the first place, of so many from one on, is what is found
pub first_place_from-found : (test : ℕ → Bool) (from count place : ℕ)
    → first_place_from test from count ≡ Some place → IsFirst test from count place
first_place_from-found test from zero place found = absurd (cc)
first_place_from-found test from (suc count) place found =
    by_test (test from) refl found (first_place_from-found test (from + 1) count place)
  where
    by_test : (passes : Bool) → test from ≡ passes
        → (if passes then Some from else first_place_from test (from + 1) count) ≡ Some place
        → (first_place_from test (from + 1) count ≡ Some place → IsFirst test (from + 1) count place)
        → IsFirst test from (suc count) place
    by_test true passes found rest =
        let same : from ≡ place = cc in
        record {
          begins = omega arith;
          ends = omega arith;
          passes = rw (← same) passes;
          before = λ (k : ℕ) (begins : from ≤ k) (ends : k < place). absurd (omega arith);
        }
    by_test false fails found rest = later-first test from count place fails (rest found)
