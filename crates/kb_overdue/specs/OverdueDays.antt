-- The overdue state of a day: the most severe one whose stated conditions all hold.
use Rattle.std.specs.Prelude.{ℕ, ◌+◌, ◌≡◌, ◌≤◌, Bool, true, false, ◌&&◌, List, [], ◌∷◌, length, codes, ℤ, pos}
use Rattle.std.specs.Prelude.{neg_ℤ, ◌-ℤ◌, ◌≤ℤ◌, int_le, Option, Some, None, IsSome, IfSome, option_and_then}
use Rattle.std.specs.Prelude.{refl}
use Rattle.std.proofs.Common.{arith}
use Rattle.std.proofs.lemmas.Int.{ints}
use Rattle.kb_base.specs.Offenders.{first_place, passes_at}
use Rattle.kb_days.specs.Dates.{february, march}
use Rattle.kb_overdue.specs.declared.state.OverdueState.{OverdueState}
use Rattle.kb_overdue.specs.declared.arrears.Arrears.{Arrears}

-- for the examples: a state with these conditions, on days, count and total
abbrev stating : Option ℕ → Option ℕ → Option ℕ → OverdueState
stating days count total =
    record {
      name = codes "LATE";
      days = days;
      count = count;
      total = total;
      block_change = false;
      block_entitlement = false;
      block_billing = false;
    }

-- for the examples: so much is unpaid since a day, on so many invoices
abbrev owing : ℕ → ℕ → ℤ → Arrears
owing earliest count total = record { earliest = Some earliest; count = count; total = total }

-- for the examples: nothing is unpaid
abbrev owing_nothing : Arrears
owing_nothing = record { earliest = None; count = 0; total = pos 0 }

-- for the examples: the states of a shop, after 14 days and after 7 days
abbrev shop : List OverdueState
shop = stating (Some 14) None None ∷ stating (Some 7) None None ∷ []

-- a condition that is stated holds for a value of at least its number; one that isn't asks nothing
abbrev pub is_met : Option ℕ → ℤ → Bool
is_met None value = true
is_met (Some least) value = int_le (pos least) value

met_exactly : is_met (Some 7) (pos 7) ≡ true
met_exactly = refl

not_met : is_met (Some 7) (pos 6) ≡ false
not_met = refl

not_stated : is_met None (neg_ℤ (pos 1)) ≡ true
not_stated = refl

-- so many days have passed since a day: less than 0 before it
abbrev pub days_since : ℕ → ℕ → ℤ
days_since earliest day = pos day -ℤ pos earliest

over_the_end_of_february : days_since (february 28) (march 1) ≡ pos 2
over_the_end_of_february = refl

the_day_before : days_since (march 1) (february 29) ≡ neg_ℤ (pos 1)
the_day_before = refl

-- each condition of a state that is stated holds, so many days after the earliest unpaid invoice
abbrev pub is_reached : ℤ → Arrears → OverdueState → Bool
is_reached days arrears state =
    is_met state.days days && is_met state.count (pos arrears.count) && is_met state.total arrears.total

all_three : is_reached (pos 7) (owing (march 1) 2 (pos 1000)) (stating (Some 7) (Some 2) (Some 1000)) ≡ true
all_three = refl

two_of_three :
    is_reached (pos 7) (owing (march 1) 1 (pos 1000)) (stating (Some 7) (Some 2) (Some 1000)) ≡ false
two_of_three = refl

-- the state at a place is reached
unfoldable pub is_reached_at : ℤ → Arrears → List OverdueState → ℕ → Bool
is_reached_at days arrears states place = passes_at states place (is_reached days arrears)

-- the place of the first state that is reached, so many days after the earliest unpaid invoice
abbrev pub first_reached : ℤ → Arrears → List OverdueState → Option ℕ
first_reached days arrears states = first_place (is_reached_at days arrears states) (length states)

the_most_severe : first_reached (pos 14) (owing (march 1) 1 (pos 1000)) shop ≡ Some 0
unfolding is_reached_at
the_most_severe = refl

-- the place of the state of a day: none is CLEAR, if no state is reached or nothing is unpaid
unfoldable pub state_on : List OverdueState → Arrears → ℕ → Option ℕ
state_on states arrears day =
    option_and_then (λ earliest. first_reached (days_since earliest day) arrears states) arrears.earliest

six_days : state_on shop (owing (march 1) 1 (pos 1000)) (march 7) ≡ None
unfolding state_on is_reached_at
six_days = refl

seven_days : state_on shop (owing (march 1) 1 (pos 1000)) (march 8) ≡ Some 1
unfolding state_on is_reached_at
seven_days = refl

fourteen_days : state_on shop (owing (march 1) 1 (pos 1000)) (march 15) ≡ Some 0
unfolding state_on is_reached_at
fourteen_days = refl

nothing_unpaid : state_on shop owing_nothing (march 15) ≡ None
unfolding state_on is_reached_at
nothing_unpaid = refl

before_the_earliest : state_on (stating (Some 1) None None ∷ []) (owing (march 1) 1 (pos 1000)) (february 20)
    ≡ None
unfolding state_on is_reached_at
before_the_earliest = refl

-- a state holds on a day: something is unpaid, and what is stated is reached
pub record Holds (arrears : Arrears) (day : ℕ) (state : OverdueState) : Type 0 where
  pub unpaid : IsSome arrears.earliest
  pub days : IfSome arrears.earliest (λ earliest. IfSome state.days (λ least. earliest + least ≤ day))
  pub count : IfSome state.count (λ least. least ≤ arrears.count)
  pub total : IfSome state.total (λ least. pos least ≤ℤ arrears.total)

a_week_late : Holds (owing (march 1) 1 (pos 1000)) (march 8) (stating (Some 7) None (Some 1000))
a_week_late = record { unpaid = refl; days = omega arith; count = tt; total = omega (arith, ints) }
