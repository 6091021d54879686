-- Members of which the first ones alone pass a test.
use Rattle.std.proofs.Common.{◌≡◌, ℕ, zero, suc, ◌<◌, ◌≤◌, Bool, true, false, List, [], ◌∷◌, length, take}
use Rattle.std.proofs.Common.{filter, slice_get, Option, Some, refl, ap, arith}
use Rattle.std.specs.List.{last_or}
use Rattle.std.specs.List.Sorted.{IsPartitionPoint}

-- what passes a test that the first members alone pass is those
pub filter-take : {A : Type 0} (p : A → Bool) (xs : List A) (n : ℕ) → n ≤ length xs
    → IsPartitionPoint (λ (x : A). p x ≡ true) (λ (x : A). p x ≡ false) xs n
    → filter p xs ≡ take n xs
filter-take p [] zero within point = refl
filter-take p [] (suc n) within point = refl
filter-take {A} p (x ∷ xs) zero within point =
    let fails : p x ≡ false = point.1 0 x (omega arith) (omega arith) in
    let later : filter p xs ≡ take 0 xs =
    filter-take p xs 0 (omega arith)
    (λ k d low high. absurd (omega arith), λ k d low high. point.1 (suc k) d (omega arith) (omega arith)) in
    rw fails later
filter-take p (x ∷ xs) (suc n) within point =
    let passes : p x ≡ true = point.0 0 x (omega arith) (omega arith) in
    let later : filter p xs ≡ take n xs =
    filter-take p xs n (omega arith) (
      λ k d low high. point.0 (suc k) d (omega arith) (omega arith),
      λ k d low high. point.1 (suc k) d (omega arith) (omega arith),
    ) in
    rw passes (ap (λ rest. x ∷ rest) later)

-- the last of the first members
pub last_or-take : {A : Type 0} (before : Option A) (xs : List A) (n : ℕ) → n < length xs
    → last_or before (take (suc n) xs) ≡ slice_get xs n
last_or-take before [] n within = absurd (omega arith)
last_or-take before (x ∷ xs) zero within = refl
last_or-take before (x ∷ xs) (suc n) within = last_or-take (Some x) xs n (omega arith)
