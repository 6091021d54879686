-- The runs of a key are its longest runs, and nothing else is.
use Rattle.std.proofs.Common.{◌≡◌, ℕ, zero, suc, ◌+◌, ◌<◌, ◌≤◌, ◌⊎◌, inl, inr, ⊎_elim, Bool, true, false}
use Rattle.std.proofs.Common.{◌&&◌, ◌==◌, List, [], ◌∷◌, Option, Some, None, nat_eq, true≢false, refl, sym}
use Rattle.std.proofs.Common.{ap, subst, arith}
use Rattle.std.proofs.lemmas.Bool.{cond_both, cond-true, cond-false, and_parts, and_cases, and_from, and_left}
use Rattle.std.proofs.lemmas.Bool.{and_right, eqb-true, eqb-false, eq-eqb, cases_Bool}
use Rattle.std.proofs.lemmas.Option.{none-some}
use Rattle.std.proofs.Math.Nat.{eq-or-lt_of_le}
use Rattle.kb_base.specs.Runs.{Stretch, with_day, runs, IsSame, HasNone, IsStretch, IsOther, AreRuns}

module _ {V : Type 0} (same : V → V → Bool) where
  -- a stretch that may be joined begins on the next day, with the same value
  pub joined-parts : (value : V) (day : ℕ) (next : Stretch V)
      → ((next.from == day + 1) && same value next.value) ≡ true
      → (next.from ≡ day + 1) × (same value next.value ≡ true)
  joined-parts value day next joined =
      let parts = and_parts (next.from == day + 1) (same value next.value) joined in
      (eqb-true next.from (day + 1) parts.0, parts.1)

  -- a stretch that may not be joined, but begins on the next day, has another value
  apart-value : (value : V) (day : ℕ) (next : Stretch V)
      → ((next.from == day + 1) && same value next.value) ≡ false
      → day + 1 ≡ next.from → same value next.value ≡ false
  apart-value value day next apart beside =
      ⊎_elim (λ elsewhere. absurd (eqb-false next.from (day + 1) elsewhere (sym beside))) (λ other. other)
      (and_cases (next.from == day + 1) (same value next.value) apart)

module _ {V : Type 0} (same : V → V → Bool) (key : ℕ → Option V) where
  -- a day without a value, before days without one
  HasNone-more : (day to : ℕ) → key day ≡ None → HasNone key (day + 1) to → HasNone key day to
  HasNone-more day to none later = λ on low high.
      ⊎_elim (λ here. subst (λ d. key d ≡ None) here none) (λ more. later on (omega arith) high)
      (eq-or-lt_of_le low)

  -- a day with a value, before days that have it too
  valued-more : (value : V) (day to : ℕ) → key day ≡ Some value
      → ((on : ℕ) → day + 1 ≤ on → on < to → key on ≡ Some value)
      → (on : ℕ) → day ≤ on → on < to → key on ≡ Some value
  valued-more value day to here later on low high =
      ⊎_elim (λ begins. subst (λ d. key d ≡ Some value) begins here) (λ more. later on (omega arith) high)
      (eq-or-lt_of_le low)

  -- the stretch of one day
  one_day : (value : V) (day end : ℕ) → day + 1 ≤ end → key day ≡ Some value
      → IsStretch key day end (record { from = day; to = day + 1; value = value })
  one_day value day end long here = record {
    begins = omega arith;
    some_day = omega arith;
    ends = long;
    valued = valued-more value day (day + 1) here (λ on low high. absurd (omega arith));
  }

  -- a stretch from the next day on is one from this day on
  IsStretch-sooner : (day end : ℕ) (stretch : Stretch V) → IsStretch key (day + 1) end stretch
      → IsStretch key day end stretch
  IsStretch-sooner day end stretch is =
      record { begins = omega arith; some_day = is.some_day; ends = is.ends; valued = is.valued }

  -- a stretch that begins after a day is one from the next day on
  IsStretch-later : (day end : ℕ) (stretch : Stretch V) → IsStretch key day end stretch → day < stretch.from
      → IsStretch key (day + 1) end stretch
  IsStretch-later day end stretch is after =
      record { begins = omega arith; some_day = is.some_day; ends = is.ends; valued = is.valued }

  -- the runs from a day on that has no value
  AreRuns-none : (day end : ℕ) (later : List (Stretch V)) → key day ≡ None
      → AreRuns same key (day + 1) end later → AreRuns same key day end later
  AreRuns-none day end [] none are = HasNone-more day end none are
  AreRuns-none day end (next ∷ later) none are =
      (IsStretch-sooner day end next are.0, HasNone-more day next.from none are.1, are.2, are.3)

  -- the runs from a day on that begins one
  AreRuns-begin : (value : V) (day end : ℕ) (later : List (Stretch V)) → day + 1 ≤ end → key day ≡ Some value
      → (day + 1 < end → IsOther same value (key (day + 1))) → AreRuns same key (day + 1) end later
      → AreRuns same key day end (record { from = day; to = day + 1; value = value } ∷ later)
  AreRuns-begin value day end later long here stops are =
      (one_day value day end long here, λ on low high. absurd (omega arith), stops, are)

  -- the runs from a day on that lengthens the next one
  AreRuns-join : (value : V) (day end : ℕ) (next : Stretch V) (later : List (Stretch V))
      → key day ≡ Some value
      → next.from ≡ day + 1 → value ≡ next.value → AreRuns same key (day + 1) end (next ∷ later)
      → AreRuns same key day end (record { from = day; to = next.to; value = value } ∷ later)
  AreRuns-join value day end next later here beside e are = (
    record {
      begins = omega arith;
      some_day = omega (arith, are.0.some_day);
      ends = are.0.ends;
      valued = valued-more value day next.to here (λ on low high. rw e (are.0.valued on (omega arith) high));
    },
    λ on low high. absurd (omega arith),
    rw e are.2,
    are.3,
  )

  -- after a day before a stretch that may not be joined, the key has another value or none
  IsOther-next : (value : V) (day end : ℕ) (next : Stretch V)
      → IsStretch key (day + 1) end next → HasNone key (day + 1) next.from
      → ((next.from == day + 1) && same value next.value) ≡ false → IsOther same value (key (day + 1))
  IsOther-next value day end next is none apart = by_place (eq-or-lt_of_le is.begins)
    where
      by_place : (day + 1 ≡ next.from) ⊎ (day + 1 < next.from) → IsOther same value (key (day + 1))
      by_place (inl beside) =
          rw (is.valued (day + 1) (omega arith) (omega (arith, is.some_day)))
          (apart-value same value day next apart beside)
      by_place (inr before) = rw (none (day + 1) (omega arith) before) tt

  -- the runs from a day on, where those from the next day on are runs
  with_day-are : IsSame same → (day end : ℕ) (found : Option V) (later : List (Stretch V)) → day + 1 ≤ end
      → key day ≡ found → AreRuns same key (day + 1) end later
      → AreRuns same key day end (with_day same day found later)
  with_day-are is day end None later long here are = AreRuns-none day end later here are
  with_day-are is day end (Some value) [] long here are =
      AreRuns-begin value day end [] long here (λ more. rw (are (day + 1) (omega arith) more) tt) are
  with_day-are is day end (Some value) (next ∷ later) long here are =
      cond_both ((next.from == day + 1) && same value next.value) _ _ (AreRuns same key day end) joins begins
    where
      joins : ((next.from == day + 1) && same value next.value) ≡ true
          → AreRuns same key day end (record { from = day; to = next.to; value = value } ∷ later)
      joins joined =
          let parts = joined-parts same value day next joined in
          AreRuns-join value day end next later here parts.0 (is.sound value next.value parts.1) are

      begins : ((next.from == day + 1) && same value next.value) ≡ false
          → AreRuns same key day end (record { from = day; to = day + 1; value = value } ∷ next ∷ later)
      begins apart =
          let stops = IsOther-next value day end next are.0 are.1 apart in
          AreRuns-begin value day end (next ∷ later) long here (λ _. stops) are

  -- runs are the longest runs, up to a day that is given
  pub runs-are-to : IsSame same → (day count end : ℕ) → day + count ≡ end
      → AreRuns same key day end (runs same key day count)
  unfolding runs
  runs-are-to is day zero end e = λ on low high. absurd (omega arith)
  runs-are-to is day (suc count) end e =
      with_day-are is day end (key day) (runs same key (day + 1) count) (omega arith) refl
      (runs-are-to is (day + 1) count end (omega arith))

  -- a stretch is told by its days and its value
  Stretch-same : (from to : ℕ) (stretch : Stretch V) → from ≡ stretch.from → to ≡ stretch.to
      → ◌≡◌ {A = Stretch V} (record { from = from; to = to; value = stretch.value }) stretch
  Stretch-same from to stretch begins ends =
      λ i. record { from = begins i; to = ends i; value = stretch.value }

  -- a day whose run can't go on is not joined with the next stretch
  apart : (value : V) (day end : ℕ) (next : Stretch V) → IsStretch key (day + 1) end next
      → (day + 1 < end → IsOther same value (key (day + 1)))
      → ((next.from == day + 1) && same value next.value) ≡ false
  apart value day end next is stops = by_test (cases_Bool (next.from == day + 1))
    where
      by_test : (next.from == day + 1 ≡ true) ⊎ (next.from == day + 1 ≡ false)
          → ((next.from == day + 1) && same value next.value) ≡ false
      by_test (inl test) =
          let beside = eqb-true next.from (day + 1) test in
          let found = is.valued (day + 1) (omega arith) (omega (arith, is.some_day)) in
          and_right (next.from == day + 1) _ (rw found at (stops (omega (arith, is.some_day, is.ends))))
      by_test (inr elsewhere) = and_left (next.from == day + 1) _ elsewhere

  -- a day before runs that do not go on with its value is a run
  with_day-begin : (value : V) (day end : ℕ) (later : List (Stretch V))
      → (day + 1 < end → IsOther same value (key (day + 1))) → AreRuns same key (day + 1) end later
      → with_day same day (Some value) later ≡ record { from = day; to = day + 1; value = value } ∷ later
  with_day-begin value day end [] stops are = refl
  with_day-begin value day end (next ∷ later) stops are =
      cond-false ((next.from == day + 1) && same value next.value) _ _ (apart value day end next are.0 stops)

  -- a run of one day is that day before the runs from the next day on
  with_day-one : (day end : ℕ) (first : Stretch V) (later : List (Stretch V))
      → day ≡ first.from → day + 1 ≡ first.to → AreRuns same key day end (first ∷ later)
      → AreRuns same key (day + 1) end later × (with_day same day (Some first.value) later ≡ first ∷ later)
  with_day-one day end first later begins ends are =
      let stops : (day + 1 < end → IsOther same first.value (key (day + 1))) = rw ends are.2 in
      let rest : AreRuns same key (day + 1) end later = rw ends are.3 in
      let one = Stretch-same day (day + 1) first begins ends in
      (rest, rw (with_day-begin first.value day end later stops rest) (ap (λ stretch. stretch ∷ later) one))

  -- the same run from the next day on
  abbrev shorter : (day : ℕ) (first : Stretch V) → Stretch V
  shorter day first = record { from = day + 1; to = first.to; value = first.value }

  -- a longer run is its first day before the same run from the next day on
  with_day-more : IsSame same → (day end : ℕ) (first : Stretch V) (later : List (Stretch V))
      → day ≡ first.from → day + 1 < first.to → AreRuns same key day end (first ∷ later)
      → AreRuns same key (day + 1) end (shorter day first ∷ later)
      × (with_day same day (Some first.value) (shorter day first ∷ later) ≡ first ∷ later)
  with_day-more is day end first later begins more are = (
    (
      record {
        begins = omega arith;
        some_day = more;
        ends = are.0.ends;
        valued = λ on low high. are.0.valued on (omega arith) high;
      },
      (λ on low high. absurd (omega arith)),
      are.2,
      are.3,
    ),
    rw (cond-true ((day + 1 == day + 1) && same first.value first.value) _ _ joins)
        (ap (λ stretch. stretch ∷ later) (Stretch-same day first.to first begins refl)),
  )
    where
      joins : ((day + 1 == day + 1) && same first.value first.value) ≡ true
      joins = and_from _ _ (eq-eqb (day + 1) (day + 1) refl) (is.complete first.value)

  -- runs whose first one begins with a day are that day before the runs from the next day on
  with_day-first : IsSame same → (day end : ℕ) (first : Stretch V) (later : List (Stretch V))
      → day ≡ first.from
      → AreRuns same key day end (first ∷ later)
      → (rest : List (Stretch V)) × AreRuns same key (day + 1) end rest
      × (with_day same day (key day) rest ≡ first ∷ later)
  with_day-first is day end first later begins are =
      let here : key day ≡ Some first.value = are.0.valued day (omega arith)
      (omega (arith, are.0.some_day)) in
      let long : day + 1 ≤ first.to = omega (arith, are.0.some_day) in
      (elim (eq-or-lt_of_le long) [
        | inl ends ↦ let one =
            with_day-one day end first later begins ends are in (later, one.0, rw here one.1)
        | inr more ↦
            let rest = with_day-more is day end first later begins (omega arith) are in
            (shorter day first ∷ later, rest.0, rw here rest.1)
      ])

  -- the longest runs are a day before the longest runs from the next day on
  with_day-only : IsSame same → (day end : ℕ) (stretches : List (Stretch V)) → day < end
      → AreRuns same key day end stretches
      → (rest : List (Stretch V)) × AreRuns same key (day + 1) end rest
      × (with_day same day (key day) rest ≡ stretches)
  with_day-only is day end [] some are =
      ([], (λ on low high. are on (omega arith) high), rw (are day (omega arith) some) refl)
  with_day-only is day end (first ∷ later) some are =
      (elim (eq-or-lt_of_le are.0.begins) [
        | inl here ↦ with_day-first is day end first later here are
        | inr after ↦ (
          first ∷ later,
          (
            IsStretch-later day end first are.0
                after,
            (λ on low high. are.1 on (omega arith) high),
            are.2,
            are.3,
          ),
          rw (are.1 day (omega arith) after) refl,
        )
      ])

  -- stretches that are the longest runs are the runs, up to a day that is given
  pub are-runs-only-to : IsSame same → (day count end : ℕ) (stretches : List (Stretch V)) → day + count ≡ end
      → AreRuns same key day end stretches → runs same key day count ≡ stretches
  unfolding runs
  are-runs-only-to is day zero end [] e are = refl
  are-runs-only-to is day zero end (first ∷ later) e are =
      absurd (omega (arith, are.0.begins, are.0.some_day, are.0.ends))
  are-runs-only-to is day (suc count) end stretches e are =
      let step = with_day-only is day end stretches (omega arith) are in
      rw (are-runs-only-to is (day + 1) count end step.0 (omega arith) step.1) step.2

-- runs are the longest runs
pub runs-are : {V : Type 0} (same : V → V → Bool) → IsSame same → (key : ℕ → Option V) (day count : ℕ)
    → AreRuns same key day (day + count) (runs same key day count)
runs-are same is key day count = runs-are-to same key is day count (day + count) refl

-- stretches that are the longest runs are the runs
pub are-runs-only : {V : Type 0} (same : V → V → Bool) → IsSame same → (key : ℕ → Option V) (day count : ℕ)
    (stretches : List (Stretch V)) → AreRuns same key day (day + count) stretches
    → runs same key day count ≡ stretches
are-runs-only same is key day count stretches are =
    are-runs-only-to same key is day count (day + count) stretches refl are

-- the test of two numbers tells whether they are one
pub nat_eq-same : IsSame nat_eq
nat_eq-same = record { sound = eqb-true; complete = λ a. eq-eqb a a refl }

-- three days with one value are one run
one_run : AreRuns nat_eq (λ _. Some 7) 3 6 (record { from = 3; to = 6; value = 7 } ∷ [])
one_run = (
  record { begins = omega arith; some_day = omega arith; ends = omega arith; valued = λ _ _ _. refl },
  (λ on low high. absurd (omega arith)),
  (λ more. absurd (omega arith)),
  λ on low high. absurd (omega arith),
)

-- they are not two
not_two_runs : AreRuns nat_eq (λ _. Some 7) 3 6
    (record { from = 3; to = 5; value = 7 } ∷ record { from = 5; to = 6; value = 7 } ∷ []) → ⊥
not_two_runs are = true≢false (are.2 (omega arith))

-- nor a shorter one
not_short_run : AreRuns nat_eq (λ _. Some 7) 3 6 (record { from = 3; to = 5; value = 7 } ∷ []) → ⊥
not_short_run are = none-some 7 (sym (are.3 5 (omega arith) (omega arith)))
