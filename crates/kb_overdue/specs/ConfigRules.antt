-- The three rules of overdue states: where each is broken, and the first that is.
use Rattle.std.specs.Prelude.{ℕ, ◌≡◌, Bool, true, false, not, ◌&&◌, ◌||◌, ◌==◌, nat_le, bytes_eq, List, []}
use Rattle.std.specs.Prelude.{◌∷◌, length, replicate, codes, is_none, Option, Some, None, refl}
use Rattle.kb_base.specs.Offenders.{first_place, passes_at, repeats_at}
use Rattle.kb_overdue.specs.declared.state.OverdueState.{OverdueState}
use Rattle.kb_overdue.specs.declared.config.ConfigRule.{ConfigRule}
use Rattle.kb_overdue.specs.declared.config.ConfigRule.TheVariants.{Count, Names, Conditions}
use Rattle.kb_overdue.specs.declared.config.ConfigFault.{ConfigFault}

-- for the examples: a state of some name that is taken after so many days, if any
abbrev after_days : List ℕ → Option ℕ → OverdueState
after_days name days =
    record {
      name = name;
      days = days;
      count = None;
      total = None;
      block_change = false;
      block_entitlement = false;
      block_billing = false;
    }

-- the most states that there may be
abbrev pub max_states : ℕ
max_states = 16

-- the number by which a rule is told
abbrev pub rule_number : ConfigRule → ℕ
rule_number Count = 1
rule_number Names = 2
rule_number Conditions = 3

-- the name of the state of who pays, which no state may have
abbrev pub clear_name : List ℕ
clear_name = codes "CLEAR"

clear_bytes : clear_name ≡ 67 ∷ 76 ∷ 69 ∷ 65 ∷ 82 ∷ []
clear_bytes = refl

-- two states have one name
abbrev pub has_name_of : OverdueState → OverdueState → Bool
has_name_of state other = bytes_eq state.name other.name

one_name : has_name_of (after_days (codes "LATE") (Some 7)) (after_days (codes "LATE") None) ≡ true
one_name = refl

names_of_other_letters : has_name_of (after_days (codes "LATE") (Some 7)) (after_days (codes "Late") (Some 7))
    ≡ false
names_of_other_letters = refl

-- a state has none of the three conditions
abbrev pub is_unconditional : OverdueState → Bool
is_unconditional state = is_none state.days && is_none state.count && is_none state.total

without_days : is_unconditional (after_days (codes "LATE") None) ≡ true
without_days = refl

from_the_first_day : is_unconditional (after_days (codes "LATE") (Some 1)) ≡ false
from_the_first_day = refl

-- where a rule is broken
unfoldable pub is_broken_at : List OverdueState → ConfigRule → ℕ → Bool
-- there are more states than there may be, which is told at the first of those too many
is_broken_at states Count place = (place == max_states) && not (nat_le (length states) max_states)
-- the state's name stands earlier, or is CLEAR
is_broken_at states Names place =
    repeats_at has_name_of states place
    || passes_at states place (λ (state : OverdueState). bytes_eq state.name clear_name)
-- the state has no condition
is_broken_at states Conditions place = passes_at states place is_unconditional

-- the first offender against a rule
abbrev pub first_offender : List OverdueState → ConfigRule → Option ℕ
first_offender states rule = first_place (is_broken_at states rule) (length states)

sixteen : first_offender (replicate 16 (after_days (codes "LATE") (Some 7))) Count ≡ None
unfolding is_broken_at
sixteen = refl

the_seventeenth : first_offender (replicate 18 (after_days (codes "LATE") (Some 7))) Count ≡ Some 16
unfolding is_broken_at
the_seventeenth = refl

the_name_again :
    first_offender (after_days (codes "A") (Some 9) ∷ after_days (codes "B") (Some 7)
    ∷ after_days (codes "A") None ∷ [])
    Names
    ≡ Some 2
unfolding is_broken_at
the_name_again = refl

the_name_of_who_pays :
    first_offender (after_days (codes "LATE") (Some 7) ∷ after_days (codes "CLEAR") (Some 5) ∷ []) Names
    ≡ Some 1
unfolding is_broken_at
the_name_of_who_pays = refl

the_first_without :
    first_offender (after_days (codes "A") (Some 9) ∷ after_days (codes "B") None
    ∷ after_days (codes "C") None ∷ [])
    Conditions
    ≡ Some 1
unfolding is_broken_at
the_first_without = refl

-- the fault of some rules: the first that is broken, and its first offender
abbrev pub fault_among : List OverdueState → List ConfigRule → Option ConfigFault
fault_among states [] = None
fault_among states (rule ∷ later) = of_offender (first_offender states rule) (fault_among states later)
  where
    of_offender : Option ℕ → Option ConfigFault → Option ConfigFault
    of_offender None rest = rest
    of_offender (Some place) rest = Some (record { rule = rule; index = place })

-- the fault of some states
unfoldable pub fault_of : List OverdueState → Option ConfigFault
fault_of states = fault_among states (Count ∷ Names ∷ Conditions ∷ [])

seventeen_of_one_name :
    fault_of (replicate 17 (after_days (codes "LATE") None)) ≡ Some (record { rule = Count; index = 16 })
unfolding fault_of is_broken_at
seventeen_of_one_name = refl

names_before_conditions :
    fault_of (after_days (codes "A") None ∷ after_days (codes "A") None ∷ [])
    ≡ Some (record { rule = Names; index = 1 })
unfolding fault_of is_broken_at
names_before_conditions = refl

a_state_without_a_condition :
    fault_of (after_days (codes "A") (Some 7) ∷ after_days (codes "B") None ∷ [])
    ≡ Some (record { rule = Conditions; index = 1 })
unfolding fault_of is_broken_at
a_state_without_a_condition = refl

-- the three rules hold
abbrev pub AreStates : List OverdueState → Type 0
AreStates states = fault_of states ≡ None

no_state : AreStates []
unfolding fault_of is_broken_at
no_state = refl

two_states : AreStates (after_days (codes "BLOCKED") (Some 14) ∷ after_days (codes "WARNING") (Some 7) ∷ [])
unfolding fault_of is_broken_at
two_states = refl
