-- Sums over a range of numbers: by a lower weight, by one that is lower at one number, and over more numbers.
use Rattle.std.proofs.Common.{◌≡◌, ℕ, zero, suc, ◌+◌, ◌≤◌, ◌<◌, ◌⊎◌, inl, inr, sum_by, arith, subst}
use Rattle.std.specs.List.{range_with_len}
use Rattle.std.proofs.lemmas.Bool.{cases_lt}
use Rattle.std.proofs.lemmas.List.Sums.{sum_by-cons}
use Rattle.kb_base.proofs.Summed.{sum_by-range-append}

module _ (f g : ℕ → ℕ) (low : (n : ℕ) → f n ≤ g n) where
  -- by a lower weight
  pub range-le : (from count : ℕ)
      → sum_by f (range_with_len from count) ≤ sum_by g (range_with_len from count)
  range-le from zero = omega arith
  range-le from (suc count) =
      let less = sum_by-cons f from (range_with_len (from + 1) count) in
      let more = sum_by-cons g from (range_with_len (from + 1) count) in
      let here = low from in
      let later = range-le (from + 1) count in
      omega arith

  -- by one that is lower at one of the numbers
  pub range-lt : (number from count : ℕ) → from ≤ number → number < from + count → f number + 1 ≤ g number
      → sum_by f (range_with_len from count) + 1 ≤ sum_by g (range_with_len from count)
  range-lt number from zero begins ends lower = absurd (omega (arith, begins, ends))
  range-lt number from (suc count) begins ends lower =
      by_order (cases_lt from number)
      (λ past. range-lt number (from + 1) count (omega (arith, past)) (omega (arith, ends)) lower)
    where
      less : sum_by f (range_with_len from (suc count)) ≡ f from + sum_by f (range_with_len (from + 1) count)
      less = sum_by-cons f from (range_with_len (from + 1) count)

      more : sum_by g (range_with_len from (suc count)) ≡ g from + sum_by g (range_with_len (from + 1) count)
      more = sum_by-cons g from (range_with_len (from + 1) count)

      by_order : (from < number) ⊎ (number ≤ from)
          → (from < number
          → sum_by f (range_with_len (from + 1) count) + 1 ≤ sum_by g (range_with_len (from + 1) count))
          → sum_by f (range_with_len from (suc count)) + 1 ≤ sum_by g (range_with_len from (suc count))
      by_order (inl past) later = omega (arith, less, more, low from, later past)
      by_order (inr here) later =
          let same : number ≡ from = omega (arith, here, begins) in
          let lower_here : f from + 1 ≤ g from = subst (λ n. f n + 1 ≤ g n) same lower in
          omega (arith, less, more, lower_here, range-le (from + 1) count)

-- by a weight of one at most
pub range-few : (f : ℕ → ℕ) → ((n : ℕ) → f n ≤ 1) → (from count : ℕ)
    → sum_by f (range_with_len from count) ≤ count
range-few f few from zero = omega arith
range-few f few from (suc count) =
    let all = sum_by-cons f from (range_with_len (from + 1) count) in
    let here = few from in
    let later = range-few f few (from + 1) count in
    omega arith

-- over more numbers
pub range-more : (f : ℕ → ℕ) → ((n : ℕ) → f n ≤ 1) → (from count more : ℕ)
    → sum_by f (range_with_len from (count + more)) ≤ sum_by f (range_with_len from count) + more
range-more f few from count more =
    let all = sum_by-range-append f from count more in
    let others = range-few f few (from + count) more in
    omega arith
