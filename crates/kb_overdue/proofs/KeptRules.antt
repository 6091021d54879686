-- What each of the three rules says of states that keep them.
use Rattle.std.proofs.Common.{◌≡◌, ◌≢◌, ℕ, ◌<◌, ◌≤◌, Bool, true, false, List, length, take, get_or, Option}
use Rattle.std.proofs.Common.{Some, None, inl, inr, arith, refl, sym, ◌∙◌}
use Rattle.std.specs.Prelude.{bytes_eq, slice_get}
use Rattle.std.specs.List.{list_any}
use Rattle.std.proofs.lemmas.Bool.{cases_lt, cases_Bool, or_from, or_parts}
use Rattle.std.proofs.lemmas.Slice.Eq.{bytes_eq-Decides}
use Rattle.std.proofs.lemmas.Option.{slice_get_within, slice_get_cases, slice_get_read, get_or_from_slice_get}
use Rattle.std.proofs.lemmas.List.{get_or-take, length-take}
use Rattle.std.proofs.lemmas.List.Folds.{Any-from_list_any, list_any_at}
use Rattle.kb_base.specs.Offenders.{passes_at}
use Rattle.kb_overdue.specs.declared.state.OverdueState.{OverdueState}
use Rattle.kb_overdue.specs.declared.config.ConfigRule.TheVariants.{Names, Conditions}
use Rattle.kb_overdue.specs.ConfigRules.{max_states, clear_name, has_name_of, is_unconditional, is_broken_at}
use Rattle.kb_overdue.specs.ConfigRules.{first_offender, AreStates}
use Rattle.kb_base.proofs.FirstPlaces.{first_place-none, first_place-fails}
use Rattle.kb_overdue.proofs.ToldFaults.{fault_of-many, fault_of-names, fault_of-conditions, fault_of-none}

-- there are not too many states
pub few_states : (states : List OverdueState) → AreStates states → length states ≤ max_states
few_states states kept =
    elim (cases_lt max_states (length states)) [
      | inl many ↦ let told = fault_of-many states many in absurd (cc)
      | inr few ↦ few
    ]

-- an option that has no value is none
none_unless : (place : Option ℕ) → ((k : ℕ) → place ≡ Some k → ⊥) → place ≡ None
none_unless None not_some = refl
none_unless (Some k) not_some = absurd (not_some k refl)

-- no state is badly named
no_bad_name : (states : List OverdueState) → AreStates states → first_offender states Names ≡ None
no_bad_name states kept =
    none_unless (first_offender states Names)
    (λ (k : ℕ) (named : first_offender states Names ≡ Some k). let told =
    fault_of-names states k (few_states states kept) named in absurd (cc))

-- no state is without a condition
none_unconditional : (states : List OverdueState) → AreStates states → first_offender states Conditions ≡ None
none_unconditional states kept =
    none_unless (first_offender states Conditions)
    (λ (k : ℕ) (without : first_offender states Conditions ≡ Some k).
    let told = fault_of-conditions states k (few_states states kept) (no_bad_name states kept) without
    in absurd (cc))

-- where the names are right, a state's name isn't CLEAR and none before it has it
named_right : (states : List OverdueState) (place : ℕ) (state : OverdueState)
    → is_broken_at states Names place ≡ false → slice_get states place ≡ Some state
    → (list_any (has_name_of state) (take place states) ≡ false) × (bytes_eq state.name clear_name ≡ false)
unfolding is_broken_at
named_right states place state right here = or_parts _ _ (rw here at right)

-- where the conditions are right, a state has one
conditioned_right : (states : List OverdueState) (place : ℕ) (state : OverdueState)
    → is_broken_at states Conditions place ≡ false → slice_get states place ≡ Some state
    → is_unconditional state ≡ false
unfolding is_broken_at
conditioned_right states place state right here = rw here at right

-- kept rules hold at each state: its name isn't CLEAR and none before it has it
named : (states : List OverdueState) (place : ℕ) (state : OverdueState) → AreStates states
    → slice_get states place ≡ Some state
    → (list_any (has_name_of state) (take place states) ≡ false) × (bytes_eq state.name clear_name ≡ false)
named states place state kept here =
    named_right states place state
    (first_place-fails (is_broken_at states Names) (length states) place (no_bad_name states kept)
    (slice_get_within states place state here)) here

-- a name that stands earlier is found there
earlier_name : (states : List OverdueState) (i j : ℕ) (a b : OverdueState) → slice_get states i ≡ Some a
    → slice_get states j ≡ Some b → i < j → a.name ≡ b.name
    → list_any (has_name_of b) (take j states) ≡ true
earlier_name states i j a b first second before same =
    let inside = slice_get_within states j b second in
    let within : i < length (take j states) = omega (arith, length-take j states) in
    let found : get_or (take j states) i a ≡ a =
    get_or-take j states i a before ∙ get_or_from_slice_get states i a a first in
    list_any_at (has_name_of b) (take j states) i a
    within (rw found ((bytes_eq-Decides b.name a.name).1 (sym same)))

-- a name that stands earlier breaks the rule
not_earlier : (states : List OverdueState) (i j : ℕ) (a b : OverdueState) → AreStates states
    → slice_get states i ≡ Some a → slice_get states j ≡ Some b → i < j → a.name ≡ b.name → ⊥
not_earlier states i j a b kept first second before same =
    let alone = (named states j b kept second).0 in
    let found = earlier_name states i j a b first second before same in
    absurd (cc)

-- two states with one name stand at one place
pub names_differ : (states : List OverdueState) (i j : ℕ) (a b : OverdueState) → AreStates states
    → slice_get states i ≡ Some a → slice_get states j ≡ Some b → a.name ≡ b.name → i ≡ j
names_differ states i j a b kept first second same =
    elim (cases_lt i j) [
      | inl before ↦ absurd (not_earlier states i j a b kept first second before same)
      | inr past ↦
          elim (cases_lt j i) [
            | inl before ↦ absurd (not_earlier states j i b a kept second first before (sym same))
            | inr back ↦ omega arith
          ]
    ]

-- no state is named CLEAR
pub no_name_is_clear : (states : List OverdueState) (place : ℕ) (state : OverdueState) → AreStates states
    → slice_get states place ≡ Some state → state.name ≢ clear_name
no_name_is_clear states place state kept here clear =
    let told = (named states place state kept here).1 in
    let same = (bytes_eq-Decides state.name clear_name).1 clear in
    absurd (cc)

-- each state has a condition
pub each_has_a_condition : (states : List OverdueState) (place : ℕ) (state : OverdueState) → AreStates states
    → slice_get states place ≡ Some state → is_unconditional state ≡ false
each_has_a_condition states place state kept here =
    conditioned_right states place state
    (first_place-fails (is_broken_at states Conditions) (length states) place (none_unconditional states kept)
    (slice_get_within states place state here)) here

-- a test fails at a place where it fails for the member there, if there is one
passes_at-fails : {A : Type 0} (members : List A) (place : ℕ) (test : A → Bool)
    → ((member : A) → slice_get members place ≡ Some member → test member ≡ false)
    → passes_at members place test ≡ false
passes_at-fails members place test fails =
    elim (slice_get_cases members place).1 [
      | inl there ↦ rw there.2 (fails there.0 there.2)
      | inr past ↦ rw past.1 refl
    ]

-- no two states at different places have one name
abbrev pub NamesDiffer : List OverdueState → Type 0
NamesDiffer states = (i j : ℕ) (a b : OverdueState) → slice_get states i ≡ Some a
    → slice_get states j ≡ Some b → a.name ≡ b.name → i ≡ j

-- a name that is found earlier stands at an earlier place
found_earlier : (states : List OverdueState) (place : ℕ) (state : OverdueState)
    → slice_get states place ≡ Some state → list_any (has_name_of state) (take place states) ≡ true
    → NamesDiffer states → ⊥
found_earlier states place state here found differ =
    let earlier = Any-from_list_any (has_name_of state) (take place states) found in
    let before : (earlier.0 < place) × (earlier.0 < length states) = (
      omega (arith, length-take place states, earlier.2),
      omega (arith, length-take place states, earlier.2),
    ) in
    let member : get_or states earlier.0 earlier.1 ≡ earlier.1 =
    sym (get_or-take place states earlier.0 earlier.1 before.0) ∙ earlier.3 in
    let there = slice_get_read states (length states) earlier.0 earlier.1 refl before.1 (sym member) in
    let same = differ place earlier.0 state earlier.1 here there
    ((bytes_eq-Decides state.name earlier.1.name).0 earlier.4) in
    omega arith

-- where names differ, none stands earlier
none_earlier : (states : List OverdueState) (place : ℕ) (state : OverdueState)
    → slice_get states place ≡ Some state → NamesDiffer states
    → list_any (has_name_of state) (take place states) ≡ false
none_earlier states place state here differ =
    elim (cases_Bool (list_any (has_name_of state) (take place states))) [
      | inl found ↦ absurd (found_earlier states place state here found differ)
      | inr none ↦ none
    ]

-- where names differ and none is CLEAR, no state is badly named
names_right : (states : List OverdueState) (place : ℕ) → NamesDiffer states
    → ((k : ℕ) (state : OverdueState) → slice_get states k ≡ Some state → state.name ≢ clear_name)
    → is_broken_at states Names place ≡ false
unfolding is_broken_at
names_right states place differ named =
    or_from _ _
    (passes_at-fails states place (λ (state : OverdueState). list_any (has_name_of state) (take place states))
    (λ (state : OverdueState) (here : slice_get states place ≡ Some state). none_earlier states place state
    here differ))
    (passes_at-fails states place (λ (state : OverdueState). bytes_eq state.name clear_name)
    (λ (state : OverdueState) (here : slice_get states place ≡ Some state). not_clear
    (bytes_eq state.name clear_name) (bytes_eq-Decides state.name clear_name).0 (named place state here)))
  where
    not_clear : {P : Type 0} (test : Bool) → (test ≡ true → P) → (P → ⊥) → test ≡ false
    not_clear true holds fails = absurd (fails (holds refl))
    not_clear false holds fails = refl

-- where each state has a condition, the rule is kept
conditions_right : (states : List OverdueState) (place : ℕ)
    → ((k : ℕ) (state : OverdueState) → slice_get states k ≡ Some state → is_unconditional state ≡ false)
    → is_broken_at states Conditions place ≡ false
unfolding is_broken_at
conditions_right states place conditioned = passes_at-fails states place is_unconditional (conditioned place)

-- states that are not too many, of different names that aren't CLEAR, and each with a condition, keep the
-- rules
pub are_states : (states : List OverdueState) → length states ≤ max_states → NamesDiffer states
    → ((k : ℕ) (state : OverdueState) → slice_get states k ≡ Some state → state.name ≢ clear_name)
    → ((k : ℕ) (state : OverdueState) → slice_get states k ≡ Some state → is_unconditional state ≡ false)
    → AreStates states
are_states states few differ named conditioned =
    fault_of-none states few
    (first_place-none (is_broken_at states Names) (length states)
    (λ (k : ℕ) (to : k < length states). names_right states k differ named))
    (first_place-none (is_broken_at states Conditions) (length states)
    (λ (k : ℕ) (to : k < length states). conditions_right states k conditioned))
