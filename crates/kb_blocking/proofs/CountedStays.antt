-- A flag is on where a stay that has the day counts.
use Rattle.std.proofs.Common.{◌≡◌, ◌<◌, ℕ, ◌-◌, Bool, true, false, ◌&&◌, ◌||◌, List, [], ◌∷◌, filter, length}
use Rattle.std.proofs.Common.{get_or, Option, Some, None, option_to_list, refl, sym, ap, ◌∙◌}
use Rattle.std.specs.List.{list_any}
use Rattle.std.proofs.lemmas.Bool.{and_parts, and_from}
use Rattle.std.proofs.lemmas.List.Folds.{Any-from_list_any, list_any_at}
use Rattle.kb_blocking.specs.declared.state.Flag.{Flag}
use Rattle.kb_blocking.specs.declared.state.BlockState.{BlockState}
use Rattle.kb_blocking.specs.declared.state.Chain.{Chain}
use Rattle.kb_blocking.specs.declared.stay.Stay.{Stay}
use Rattle.kb_blocking.specs.Blocking.{same_matter, is_on_chain, has_flag, blocks, last_on, is_on, differ}
use Rattle.kb_blocking.specs.Blocking.{turns}
use Rattle.kb_blocking.specs.Private.Stays.{has_day, counts, counts_on, AreStays}
use Rattle.kb_blocking.proofs.Matters.{same_matter-itself, is_on_chain-as}
use Rattle.kb_blocking.proofs.AddedStays.{states_of, held}

-- a state has a flag on
abbrev flagged : Flag → BlockState → Bool
flagged flag state = has_flag flag state.flags

-- a stay of a scope and service has a day, and a flag on
abbrev is_held : BlockState → Flag → ℕ → Stay → Bool
is_held matter flag day stay = (same_matter matter stay.state && has_day day stay) && flagged flag stay.state

-- what was found has a flag on where one of its list has
blocks-any : (flag : Flag) (found : Option BlockState)
    → blocks flag found ≡ list_any (flagged flag) (option_to_list found)
blocks-any flag None = refl
blocks-any flag (Some found) = or_false (flagged flag found)
  where
    or_false : (one : Bool) → one ≡ (one || false)
    or_false true = refl
    or_false false = refl

-- a test of the states of the stays that pass another
any-filter : (test : Stay → Bool) (other : BlockState → Bool) (stays : List Stay)
    → list_any other (states_of (filter test stays))
    ≡ list_any (λ (stay : Stay). test stay && other stay.state) stays
any-filter test other [] = refl
any-filter test other (stay ∷ later) = by_test (test stay) refl (any-filter test other later)
  where
    by_test : (one : Bool) → test stay ≡ one
        → list_any other (states_of (filter test later))
        ≡ list_any (λ (stay : Stay). test stay && other stay.state) later
        → list_any other (states_of (filter test (stay ∷ later)))
        ≡ list_any (λ (stay : Stay). test stay && other stay.state) (stay ∷ later)
    by_test true is rest = simp is (ap (λ (found : Bool). other stay.state || found) rest)
    by_test false is rest = simp is rest

-- a test of the states of stays
any-states_of : (test : BlockState → Bool) (stays : List Stay)
    → list_any test (states_of stays) ≡ list_any (λ (stay : Stay). test stay.state) stays
any-states_of test [] = refl
any-states_of test (stay ∷ later) = ap (λ (found : Bool). test stay.state || found) (any-states_of test later)

-- two tests that agree find the same
any-same : {A : Type 0} (test other : A → Bool) → ((member : A) → test member ≡ other member)
    → (members : List A) → list_any test members ≡ list_any other members
any-same test other same [] = refl
any-same test other same (member ∷ later) = rw (same member, any-same test other same later) refl

-- the last state of a scope and service has a flag on where a stay that has the day has
blocks-last_on : (states : List BlockState) (stays : List Stay) (matter : BlockState) (flag : Flag) (day : ℕ)
    → AreStays states stays
    → blocks flag (last_on states matter day) ≡ list_any (is_held matter flag day) stays
blocks-last_on states stays matter flag day are =
    blocks-any flag (last_on states matter day)
    ∙ ap (list_any (flagged flag)) (sym (are.last matter day))
    ∙ any-filter (λ (stay : Stay). same_matter matter stay.state && has_day day stay) (flagged flag) stays

-- a stay of the chain, with a stay of its scope and service that has the day and the flag on
abbrev is_blocked_by : List Stay → Chain → Flag → ℕ → Stay → Bool
is_blocked_by stays chain flag day stay =
    is_on_chain chain stay.state.scope && list_any (is_held stay.state flag day) stays

-- a flag is on where a stay of the chain has one of its scope and service that has the day and the flag on
is_on-stays : (states : List BlockState) (stays : List Stay) (chain : Chain) (flag : Flag) (day : ℕ)
    → AreStays states stays
    → is_on states chain flag day ≡ list_any (is_blocked_by stays chain flag day) stays
unfolding is_on
is_on-stays states stays chain flag day are =
    any-same (λ (state : BlockState). is_on_chain chain state.scope && blocks flag (last_on states state day))
    (λ (state : BlockState). is_on_chain chain state.scope && list_any (is_held state flag day) stays)
    (λ state. ap (λ (test : Bool). is_on_chain chain state.scope && test)
    (blocks-last_on states stays state flag day are))
    states
    ∙ ap
    (list_any (λ (state : BlockState). is_on_chain chain state.scope
    && list_any (is_held state flag day) stays))
    (sym are.same)
    ∙ any-states_of
    (λ (state : BlockState). is_on_chain chain state.scope && list_any (is_held state flag day) stays) stays

-- where a stay counts on the day, it is such a one itself
blocked-counts : (stays : List Stay) (chain : Chain) (flag : Flag) (day : ℕ)
    → list_any (counts_on chain flag day) stays ≡ true
    → list_any (is_blocked_by stays chain flag day) stays ≡ true
blocked-counts stays chain flag day any =
    let found = Any-from_list_any (counts_on chain flag day) stays any in
    here found.0 found.1 found.2 found.3 found.4
  where
    here : (place : ℕ) (stay : Stay) → place < length stays → get_or stays place stay ≡ stay
        → counts_on chain flag day stay ≡ true
        → list_any (is_blocked_by stays chain flag day) stays ≡ true
    here place stay within is counts =
        let parts =
        and_parts (is_on_chain chain stay.state.scope && flagged flag stay.state) (has_day day stay) counts in
        let both = and_parts (is_on_chain chain stay.state.scope) (flagged flag stay.state) parts.0 in
        let held = and_from (same_matter stay.state stay.state && has_day day stay) (flagged flag stay.state)
        (and_from (same_matter stay.state stay.state) (has_day day stay) (same_matter-itself stay.state)
        parts.1)
        both.1 in
        let inner =
        list_any_at (is_held stay.state flag day) stays place stay within
        (ap (is_held stay.state flag day) is ∙ held) in
        list_any_at (is_blocked_by stays chain flag day) stays place stay within
        (ap (is_blocked_by stays chain flag day) is ∙ and_from (is_on_chain chain stay.state.scope) _ both.0
        inner)

-- and where there is such a one, the stay that has the day counts
counts-blocked : (stays : List Stay) (chain : Chain) (flag : Flag) (day : ℕ)
    → list_any (is_blocked_by stays chain flag day) stays ≡ true
    → list_any (counts_on chain flag day) stays ≡ true
counts-blocked stays chain flag day any =
    let found = Any-from_list_any (is_blocked_by stays chain flag day) stays any in
    let parts =
    and_parts (is_on_chain chain found.1.state.scope) (list_any (is_held found.1.state flag day) stays)
    found.4 in
    let inner = Any-from_list_any (is_held found.1.state flag day) stays parts.1 in
    here found.1 parts.0 inner.0 inner.1 inner.2 inner.3 inner.4
  where
    here : (matter : Stay) → is_on_chain chain matter.state.scope ≡ true → (place : ℕ) (stay : Stay)
        → place < length stays
        → get_or stays place stay ≡ stay → is_held matter.state flag day stay ≡ true
        → list_any (counts_on chain flag day) stays ≡ true
    here matter on place stay within is held =
        let parts =
        and_parts (same_matter matter.state stay.state && has_day day stay) (flagged flag stay.state) held in
        let both = and_parts (same_matter matter.state stay.state) (has_day day stay) parts.0 in
        let also_on = sym (is_on_chain-as chain matter.state stay.state both.0) ∙ on in
        list_any_at (counts_on chain flag day) stays place stay within
        (ap (counts_on chain flag day) is
        ∙ and_from (counts chain flag stay) (has_day day stay)
        (and_from (is_on_chain chain stay.state.scope) (flagged flag stay.state) also_on parts.1) both.1)

-- truths of which each gives the other are equal
same_truth : (one other : Bool) → (one ≡ true → other ≡ true) → (other ≡ true → one ≡ true) → one ≡ other
same_truth true other there back = sym (there refl)
same_truth false true there back = back refl
same_truth false false there back = refl

-- a flag is on for a chain on a day where a stay that has the day counts
pub counts_on-is_on : (states : List BlockState) (stays : List Stay) (chain : Chain) (flag : Flag) (day : ℕ)
    → AreStays states stays
    → list_any (counts_on chain flag day) stays ≡ is_on states chain flag day
counts_on-is_on states stays chain flag day are =
    same_truth (list_any (counts_on chain flag day) stays)
    (list_any (is_blocked_by stays chain flag day) stays)
    (blocked-counts stays chain flag day) (counts-blocked stays chain flag day)
    ∙ sym (is_on-stays states stays chain flag day are)

-- so it turns where a stay counts on a day or on the day before, and not on both
pub turns-counts_on : (states : List BlockState) (stays : List Stay) (chain : Chain) (flag : Flag) (day : ℕ)
    → AreStays states stays
    → turns states chain flag day
    ≡ differ (list_any (counts_on chain flag day) stays) (list_any (counts_on chain flag (day - 1)) stays)
turns-counts_on states stays chain flag day are =
    rw
    (counts_on-is_on states stays chain flag day are, counts_on-is_on states stays chain flag (day - 1) are)
    refl
