-- Rising days.
use Rattle.std.proofs.Common.{◌≡◌, ℕ, ◌<◌, ◌≤◌, ◌⊎◌, inl, inr, List, get_or, AllPairs, ap, arith}
use Rattle.std.specs.List.Sorted.{IsNonDecreasingBy}
use Rattle.std.proofs.lemmas.Bool.{cases_lt}

-- days that rise don't fall
pub IsNonDecreasingBy-rising : (days : List ℕ) → AllPairs (λ (earlier later : ℕ). earlier < later) days
    → IsNonDecreasingBy (λ (day : ℕ). day) days
IsNonDecreasingBy-rising days rising i j d up within = by_place (cases_lt i j)
  where
    by_place : (i < j) ⊎ (j ≤ i) → get_or days i d ≤ get_or days j d
    by_place (inl before) = let order = rising i j d before within in omega (arith, order)
    by_place (inr at) =
        let same : i ≡ j = omega arith in
        omega (arith, ap (λ (place : ℕ). get_or days place d) same)
