-- What the state of a day comes to: it holds, none before it does, and there is one if any holds.
use Rattle.std.proofs.Common.{◌≡◌, ℕ, ◌+◌, ◌<◌, ◌≤◌, ◌↔◌, true, false, List, length, ℤ, pos, ◌≤ℤ◌, Option}
use Rattle.std.proofs.Common.{Some, None, IsSome, IfSome, Any, slice_get, option_and_then, inl, inr, arith}
use Rattle.std.proofs.Common.{refl, sym, ap, ◌∙◌}
use Rattle.std.proofs.lemmas.Int.{ints}
use Rattle.std.proofs.lemmas.Bool.{cases_lt, and_parts}
use Rattle.std.proofs.lemmas.Option.{slice_get_within, slice_get_cases, slice_get_read}
use Rattle.kb_base.proofs.FirstPlaces.{first_place-fails}
use Rattle.kb_overdue.specs.declared.state.OverdueState.{OverdueState}
use Rattle.kb_overdue.specs.declared.arrears.Arrears.{Arrears}
use Rattle.kb_overdue.specs.OverdueDays.{is_met, days_since, is_reached, is_reached_at, first_reached}
use Rattle.kb_overdue.specs.OverdueDays.{state_on, Holds}
use Rattle.kb_overdue.proofs.FoundPlaces.{IsFirst, first_place_from-found}

-- a condition that is met: the value is at least the number, if one is stated
is_met-least : (condition : Option ℕ) (value : ℤ) → is_met condition value ≡ true
    → IfSome condition (λ least. pos least ≤ℤ value)
is_met-least None value met = tt
is_met-least (Some least) value met = grind (arith, ints)

-- and a condition is met if the value is at least its number
is_met-from : (condition : Option ℕ) (value : ℤ) → IfSome condition (λ least. pos least ≤ℤ value)
    → is_met condition value ≡ true
is_met-from None value least = refl
is_met-from (Some number) value least = grind (arith, ints)

-- so many days after a day is not before it
days_since-least : (condition : Option ℕ) (earliest day : ℕ)
    → IfSome condition (λ least. pos least ≤ℤ days_since earliest day)
    → IfSome condition (λ least. earliest + least ≤ day)
days_since-least None earliest day least = tt
days_since-least (Some number) earliest day least = omega (arith, ints, least)

-- and so many days have passed on a day that is not before it
days_since-from : (condition : Option ℕ) (earliest day : ℕ)
    → IfSome condition (λ least. earliest + least ≤ day)
    → IfSome condition (λ least. pos least ≤ℤ days_since earliest day)
days_since-from None earliest day least = tt
days_since-from (Some number) earliest day least = omega (arith, ints, least)

-- so many unpaid invoices, as a number that may be below 0
count-least : (condition : Option ℕ) (count : ℕ) → IfSome condition (λ least. pos least ≤ℤ pos count)
    → IfSome condition (λ least. least ≤ count)
count-least None count least = tt
count-least (Some number) count least = omega (arith, ints, least)

count-from : (condition : Option ℕ) (count : ℕ) → IfSome condition (λ least. least ≤ count)
    → IfSome condition (λ least. pos least ≤ℤ pos count)
count-from None count least = tt
count-from (Some number) count least = omega (arith, ints, least)

-- a state that is reached holds
Holds-reached : (arrears : Arrears) (day earliest : ℕ) (state : OverdueState)
    → arrears.earliest ≡ Some earliest → is_reached (days_since earliest day) arrears state ≡ true
    → Holds arrears day state
Holds-reached arrears day earliest state unpaid reached =
    let all = and_parts _ _ reached in
    let late = and_parts _ _ all.0 in
    record {
      unpaid = rw unpaid refl;
      days = rw unpaid (days_since-least state.days earliest day (is_met-least _ _ late.0));
      count = count-least state.count arrears.count (is_met-least _ _ late.1);
      total = is_met-least _ _ all.1;
    }

-- a state that holds is reached
is_reached-Holds : (arrears : Arrears) (day earliest : ℕ) (state : OverdueState)
    → arrears.earliest ≡ Some earliest → Holds arrears day state
    → is_reached (days_since earliest day) arrears state ≡ true
is_reached-Holds arrears day earliest state unpaid holds =
    let late = is_met-from state.days _ (days_since-from state.days earliest day (rw unpaid at holds.days)) in
    let many = is_met-from state.count _ (count-from state.count arrears.count holds.count) in
    let much = is_met-from state.total _ holds.total in
    rw (late, many, much) refl

-- what is reached at a place is the state there
is_reached_at-there : (days : ℤ) (arrears : Arrears) (states : List OverdueState) (place : ℕ)
    (state : OverdueState) → slice_get states place ≡ Some state
    → is_reached_at days arrears states place ≡ is_reached days arrears state
unfolding is_reached_at
is_reached_at-there days arrears states place state there = rw there refl

-- the state of a day is the first that is reached, since the earliest unpaid invoice
state_on-first : (states : List OverdueState) (arrears : Arrears) (day place : ℕ)
    → state_on states arrears day ≡ Some place
    → (earliest : ℕ) × (arrears.earliest ≡ Some earliest)
    × IsFirst (is_reached_at (days_since earliest day) arrears states) 0 (length states) place
unfolding state_on
state_on-first states arrears day place found = since arrears.earliest refl found
  where
    since : (first : Option ℕ) → arrears.earliest ≡ first
        → option_and_then (λ earliest. first_reached (days_since earliest day) arrears states) first
        ≡ Some place
        → (earliest : ℕ) × (arrears.earliest ≡ Some earliest)
        × IsFirst (is_reached_at (days_since earliest day) arrears states) 0 (length states) place
    since None unpaid found = absurd (cc)
    since (Some earliest) unpaid found =
        (earliest, unpaid, first_place_from-found _ 0 (length states) place found)

-- if no state is taken, though something is unpaid, none is reached
state_on-fails : (states : List OverdueState) (arrears : Arrears) (day earliest place : ℕ)
    → arrears.earliest ≡ Some earliest → state_on states arrears day ≡ None → place < length states
    → is_reached_at (days_since earliest day) arrears states place ≡ false
unfolding state_on
state_on-fails states arrears day earliest place unpaid none within =
    let asked = λ (first : ℕ). first_reached (days_since first day) arrears states in
    first_place-fails _ (length states) place (sym (ap (option_and_then asked) unpaid) ∙ none) within

-- clear if nothing is unpaid
pub state_on-clear : (states : List OverdueState) (arrears : Arrears) (day : ℕ) → arrears.earliest ≡ None
    → state_on states arrears day ≡ None
unfolding state_on
state_on-clear states arrears day none = rw none refl

-- the state of a day is in the list
pub state_on-there : (states : List OverdueState) (arrears : Arrears) (day place : ℕ)
    → state_on states arrears day ≡ Some place → place < length states
state_on-there states arrears day place found =
    let first = state_on-first states arrears day place found in
    omega (arith, first.2.ends)

-- the state of a day holds
pub state_on-holds : (states : List OverdueState) (arrears : Arrears) (day place : ℕ) (state : OverdueState)
    → state_on states arrears day ≡ Some place → slice_get states place ≡ Some state
    → Holds arrears day state
state_on-holds states arrears day place state found there =
    let first = state_on-first states arrears day place found in
    let days = days_since first.0 day in
    Holds-reached arrears day first.0 state first.1
    (sym (is_reached_at-there days arrears states place state there) ∙ first.2.passes)

-- no state before it holds
pub state_on-severest : (states : List OverdueState) (arrears : Arrears) (day taken place : ℕ)
    (state : OverdueState) → state_on states arrears day ≡ Some taken → slice_get states place ≡ Some state
    → Holds arrears day state → taken ≤ place
state_on-severest states arrears day taken place state found there holds =
    let first = state_on-first states arrears day taken found in
    let days = days_since first.0 day in
    elim (cases_lt place taken) [
      | inl before ↦
          let fails = first.2.before place (omega arith) before in
          let reached = is_reached-Holds arrears day first.0 state first.1 holds in
          let same = is_reached_at-there days arrears states place state there in
          absurd (cc)
      | inr past ↦ past
    ]

-- there is one if a state holds
pub state_on-some : (states : List OverdueState) (arrears : Arrears) (day place : ℕ) (state : OverdueState)
    → slice_get states place ≡ Some state → Holds arrears day state → IsSome (state_on states arrears day)
state_on-some states arrears day place state there holds =
    since arrears.earliest refl (state_on states arrears day) refl
  where
    since : (first : Option ℕ) → arrears.earliest ≡ first → (taken : Option ℕ)
        → state_on states arrears day ≡ taken → IsSome taken
    since first unpaid (Some taken) found = refl
    since None unpaid None none = absurd (let no = holds.unpaid in cc)
    since (Some earliest) unpaid None none =
        let within = slice_get_within states place state there in
        let fails = state_on-fails states arrears day earliest place unpaid none within in
        let reached = is_reached-Holds arrears day earliest state unpaid holds in
        let same = is_reached_at-there (days_since earliest day) arrears states place state there in
        absurd (cc)

-- and only then
state_on-some_holds : (states : List OverdueState) (arrears : Arrears) (day : ℕ)
    → IsSome (state_on states arrears day) → Any (λ state. Holds arrears day state) states
state_on-some_holds states arrears day some = by_place (state_on states arrears day) refl some
  where
    by_place : (taken : Option ℕ) → state_on states arrears day ≡ taken → IsSome taken
        → Any (λ state. Holds arrears day state) states
    by_place None found some = absurd (cc)
    by_place (Some place) found some =
        elim (slice_get_cases states place).1 [
          | inl here ↦ (
            place,
            here.0,
            here.1,
            here.3,
            state_on-holds states arrears day place here.0 found here.2,
          )
          | inr past ↦ let within = state_on-there states arrears day place found in absurd (omega arith)
        ]

-- there is a state of the day exactly if one of the list holds
pub state_on-overdue : (states : List OverdueState) (arrears : Arrears) (day : ℕ)
    → IsSome (state_on states arrears day) ↔ Any (λ state. Holds arrears day state) states
state_on-overdue states arrears day = (
  state_on-some_holds states arrears day,
  λ (holding : Any (λ state. Holds arrears day state) states).
      state_on-some states arrears day holding.0 holding.1
      (slice_get_read states (length states) holding.0 holding.1 refl holding.2 (sym holding.3)) holding.4,
)

-- the place that is taken, if there is one
pub state_on-within : (states : List OverdueState) (arrears : Arrears) (day : ℕ)
    → IfSome (state_on states arrears day) (λ place. place < length states)
state_on-within states arrears day = by_place (state_on states arrears day) refl
  where
    by_place : (taken : Option ℕ) → state_on states arrears day ≡ taken
        → IfSome taken (λ place. place < length states)
    by_place None found = tt
    by_place (Some place) found = state_on-there states arrears day place found
