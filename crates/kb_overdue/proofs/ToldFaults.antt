-- Which fault is told of states, by the first offenders against the rules.
use Rattle.std.proofs.Common.{◌≡◌, ℕ, ◌<◌, ◌≤◌, true, false, List, length, Some, None, arith, refl}
use Rattle.std.proofs.lemmas.Bool.Decides.{nat_tests}
use Rattle.kb_overdue.specs.declared.state.OverdueState.{OverdueState}
use Rattle.kb_overdue.specs.declared.config.ConfigRule.TheVariants.{Count, Names, Conditions}
use Rattle.kb_overdue.specs.ConfigRules.{is_broken_at, first_offender, fault_of}
use Rattle.kb_base.proofs.FirstPlaces.{first_place-none, first_place-some}

-- at no place are up to sixteen states too many
is_broken_at-few : (states : List OverdueState) (place : ℕ) → length states ≤ 16
    → is_broken_at states Count place ≡ false
unfolding is_broken_at
is_broken_at-few states place few = grind (arith, nat_tests)

-- of up to sixteen states none is too many
pub first_offender-few : (states : List OverdueState) → length states ≤ 16
    → first_offender states Count ≡ None
first_offender-few states few = first_place-none (is_broken_at states Count) (length states)
    (λ (k : ℕ) (to : k < length states). is_broken_at-few states k few)

-- of more than sixteen states the one at place 16 is told as too many
is_broken_at-many : (states : List OverdueState) → 16 < length states → is_broken_at states Count 16 ≡ true
unfolding is_broken_at
is_broken_at-many states many = grind (arith, nat_tests)

-- none before place 16 is told as too many
is_broken_at-before : (states : List OverdueState) (place : ℕ) → place < 16
    → is_broken_at states Count place ≡ false
unfolding is_broken_at
is_broken_at-before states place before = grind (arith, nat_tests)

-- of more than sixteen states the one at place 16 is the first too many
pub first_offender-many : (states : List OverdueState) → 16 < length states
    → first_offender states Count ≡ Some 16
first_offender-many states many =
    first_place-some (is_broken_at states Count) (length states) 16 many (is_broken_at-many states many)
    (λ (k : ℕ) (to : k < 16). is_broken_at-before states k to)

-- with more than sixteen states the first rule is told
pub fault_of-many : (states : List OverdueState) → 16 < length states
    → fault_of states ≡ Some (record { rule = Count; index = 16 })
unfolding fault_of
fault_of-many states many = rw (first_offender-many states many) refl

-- else the first badly named state is told
pub fault_of-names : (states : List OverdueState) (place : ℕ) → length states ≤ 16
    → first_offender states Names ≡ Some place → fault_of states
    ≡ Some (record { rule = Names; index = place })
unfolding fault_of
fault_of-names states place few named = rw (first_offender-few states few, named) refl

-- else the first state without a condition is told
pub fault_of-conditions : (states : List OverdueState) (place : ℕ) → length states ≤ 16
    → first_offender states Names ≡ None → first_offender states Conditions ≡ Some place
    → fault_of states ≡ Some (record { rule = Conditions; index = place })
unfolding fault_of
fault_of-conditions states place few named without = rw (first_offender-few states few, named, without) refl

-- else no fault is told
pub fault_of-none : (states : List OverdueState) → length states ≤ 16 → first_offender states Names ≡ None
    → first_offender states Conditions ≡ None → fault_of states ≡ None
unfolding fault_of
fault_of-none states few named without = rw (first_offender-few states few, named, without) refl

-- each case of what is told
pub ruleset told = (fault_of-many, fault_of-names, fault_of-conditions, fault_of-none)
