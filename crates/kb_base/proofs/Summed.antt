-- Sums over days, and what runs weigh in all.
use Rattle.std.proofs.Common.{ap, ◌∙◌, ◌≡◌, ℕ, zero, suc, ◌+◌, ◌-◌, ◌*◌, ◌/◌, ◌<◌, ◌≤◌, Bool}
use Rattle.std.proofs.Common.{List, [], ◌∷◌, Option, Some, None, ◌==◌, nat_eq, if◌then◌else◌, sum_by, refl}
use Rattle.std.proofs.Common.{sym, arith}
use Rattle.std.specs.List.{range_with_len}
use Rattle.std.proofs.lemmas.List.Sums.{sum_by-cons}
use Rattle.kb_base.specs.Runs.{Stretch, runs, IsSame, HasNone, IsStretch, AreRuns, weight_of}
use Rattle.kb_base.proofs.Tiled.{runs-are}

-- days and the days after them make up a longer time
pub sum_by-range-split : (f : ℕ → ℕ) (from middle first rest count : ℕ)
    → from + first ≡ middle → first + rest ≡ count
    → sum_by f (range_with_len from count) ≡ sum_by f (range_with_len from first) + sum_by f
    (range_with_len middle rest)
sum_by-range-split f from middle zero rest count e g =
    let begins : from ≡ middle = omega arith in
    let all : rest ≡ count = omega arith in
    rw (begins, all) (omega arith)
sum_by-range-split f from middle (suc first) rest count e g =
    let whole : count ≡ suc (first + rest) = omega arith in
    let later = sum_by-range-split f (from + 1) middle first rest (first + rest) (omega arith) refl in
    let longer = sum_by-cons f from (range_with_len (from + 1) (first + rest)) in
    let shorter = sum_by-cons f from (range_with_len (from + 1) first) in
    rw whole (omega arith)

-- a time of some days, and then some
pub sum_by-range-append : (f : ℕ → ℕ) (from first rest : ℕ)
    → sum_by f (range_with_len from (first + rest))
    ≡ sum_by f (range_with_len from first) + sum_by f (range_with_len (from + first) rest)
sum_by-range-append f from first rest =
    sum_by-range-split f from (from + first) first rest (first + rest) refl refl

-- what is the same on each day is the same over all of them
pub sum_by-range-same : (f g : ℕ → ℕ) (from count : ℕ)
    → ((d : ℕ) → from ≤ d → d < from + count → f d ≡ g d)
    → sum_by f (range_with_len from count) ≡ sum_by g (range_with_len from count)
sum_by-range-same f g from zero agree = refl
sum_by-range-same f g from (suc count) agree =
    let here = agree from (omega arith) (omega arith) in
    let later = sum_by-range-same f g (from + 1) count (λ d low high. agree d (omega arith) (omega arith)) in
    let first = sum_by-cons f from (range_with_len (from + 1) count) in
    let second = sum_by-cons g from (range_with_len (from + 1) count) in
    omega arith

-- what is nothing on each day is nothing over all of them
pub sum_by-range-none : (f : ℕ → ℕ) (from count : ℕ)
    → ((d : ℕ) → from ≤ d → d < from + count → f d ≡ 0)
    → sum_by f (range_with_len from count) ≡ 0
sum_by-range-none f from zero none = refl
sum_by-range-none f from (suc count) none =
    let here = none from (omega arith) (omega arith) in
    let later = sum_by-range-none f (from + 1) count (λ d low high. none d (omega arith) (omega arith)) in
    let all = sum_by-cons f from (range_with_len (from + 1) count) in
    omega arith

-- a sum of two weights is the two sums
pub sum_by-plus : {X : Type 0} (f g : X → ℕ) (xs : List X)
    → sum_by (λ x. f x + g x) xs ≡ sum_by f xs + sum_by g xs
sum_by-plus f g [] = refl
sum_by-plus f g (x ∷ xs) =
    omega (
      arith,
      sum_by-plus f g xs,
      sum_by-cons
          (λ y. f y + g y) x xs,
      sum_by-cons f x xs,
      sum_by-cons g x xs,
    )

module _ {V : Type 0} (same : V → V → Bool) (key : ℕ → Option V) (weight : V → ℕ → ℕ) where
  -- days without a value weigh nothing
  weightless : (day count : ℕ) → HasNone key day (day + count)
      → sum_by (λ d. weight_of weight (key d) d) (range_with_len day count) ≡ 0
  weightless day count none =
      sum_by-range-none (λ d. weight_of weight (key d) d) day count (λ d low high. rw (none d low high))

  -- the days of a stretch weigh what its value weighs on them
  weighed : (day end count : ℕ) (stretch : Stretch V)
      → IsStretch key day end stretch → stretch.from + count ≡ stretch.to
      → sum_by (λ d. weight_of weight (key d) d) (range_with_len stretch.from count)
      ≡ sum_by (weight stretch.value) (range_with_len stretch.from count)
  weighed day end count stretch is e =
      sum_by-range-same (λ d. weight_of weight (key d) d) (weight stretch.value) stretch.from count
      (λ d low high. rw (is.valued d low (omega arith)))

  -- the longest runs weigh over their days what all days weigh
  pub sum-AreRuns : (day count end : ℕ) (stretches : List (Stretch V))
      → day + count ≡ end → AreRuns same key day end stretches
      → sum_by (λ stretch. sum_by (weight stretch.value)
      (range_with_len stretch.from (stretch.to - stretch.from))) stretches
      ≡ sum_by (λ d. weight_of weight (key d) d) (range_with_len day count)
  sum-AreRuns day count end [] e are = sym (weightless day count (λ d low high. are d low (omega arith)))
  sum-AreRuns day count end (first ∷ later) e are =
      let all = λ (d : ℕ). weight_of weight (key d) d in
      let own = λ (run : Stretch V). sum_by (weight run.value)
      (range_with_len run.from (run.to - run.from)) in
      let begins = are.0.begins in
      let some_day = are.0.some_day in
      let ends = are.0.ends in
      let empty = first.from - day in
      let long = first.to - first.from in
      let left = end - first.to in
      let before = sum_by-range-split all day first.from empty (end - first.from) count (omega arith)
      (omega arith) in
      let after = sum_by-range-split all first.from first.to long left (end - first.from) (omega arith)
      (omega arith) in
      let none = weightless day empty (λ d low high. are.1 d low (omega arith)) in
      let here = weighed day end long first are.0 (omega arith) in
      let rest = sum-AreRuns first.to left end later (omega arith) are.3 in
      omega (arith, sum_by-cons own first later)

-- the runs weigh over their days what all days weigh
pub sum-runs : {V : Type 0} (same : V → V → Bool) → IsSame same → (key : ℕ → Option V) (weight : V → ℕ → ℕ)
    (day count : ℕ)
    → sum_by (λ stretch. sum_by (weight stretch.value)
    (range_with_len stretch.from (stretch.to - stretch.from)))
    (runs same key day count)
    ≡ sum_by (λ d. weight_of weight (key d) d) (range_with_len day count)
sum-runs same is key weight day count =
    sum-AreRuns same key weight day count (day + count) (runs same key day count) refl
    (runs-are same is key day count)

-- days 3, 5, 6 and 7 weigh 3, 5, 16 and 17
days_weigh : sum_by (λ d. weight_of (λ value on. 10 * value + on) (if d == 4 then None else Some (d / 6)) d)
    (range_with_len 3 5)
    ≡ 41
days_weigh = refl

-- their runs weigh that in all
runs_weigh : sum_by (λ run. sum_by (λ on. 10 * run.value + on) (range_with_len run.from (run.to - run.from)))
    (runs nat_eq (λ d. if d == 4 then None else Some (d / 6)) 3 5) ≡ 41
unfolding runs
runs_weigh = refl

-- a sum over one day more
pub sum_by-range-more : (f : ℕ → ℕ) (from count : ℕ)
    → sum_by f (range_with_len from (count + 1)) ≡ sum_by f (range_with_len from count) + f (from + count)
sum_by-range-more f from count =
    let last : sum_by f (range_with_len (from + count) 1) ≡ f (from + count) = omega arith in
    sum_by-range-append f from count 1 ∙ ap (λ n. sum_by f (range_with_len from count) + n) last
