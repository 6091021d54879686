-- The stays of states, where one more state is accepted.
use Rattle.std.proofs.Common.{◌≡◌, ℕ, ◌≤◌, Bool, true, false, not, cond, ◌&&◌, ◌||◌, nat_le, nat_lt, List, []}
use Rattle.std.proofs.Common.{◌∷◌, ◌++◌, map, filter, fold, Option, Some, None, option_to_list, refl, sym, ap}
use Rattle.std.proofs.Common.{◌∙◌, inl, inr, arith, append-nil}
use Rattle.std.specs.List.{list_any}
use Rattle.std.proofs.lemmas.Bool.Decides.{nat_tests}
use Rattle.std.proofs.lemmas.Bool.{cases_lt, leb-true, leb-false, le-leb, lt-leb, lt-ltb, le-ltb, ltb-true}
use Rattle.std.proofs.lemmas.Bool.{ltb-false}
use Rattle.std.proofs.lemmas.List.{map-append}
use Rattle.std.proofs.lemmas.List.Elements.{filter-append, filter_agree}
use Rattle.std.proofs.lemmas.List.Sums.{fold-append}
use Rattle.kb_blocking.specs.declared.state.BlockState.{BlockState}
use Rattle.kb_blocking.specs.declared.stay.Stay.{Stay}
use Rattle.kb_blocking.specs.Blocking.{same_matter, later_of, last_on}
use Rattle.kb_blocking.specs.Private.Stays.{is_before, has_day, cut_by, earlier_of, sooner, first_after}
use Rattle.kb_blocking.specs.Private.Stays.{stay_of, with_stay, AreStays}
use Rattle.kb_blocking.proofs.Matters.{same_matter-itself, same_matter-as}
use Rattle.kb_blocking.proofs.CutStays.{cut_by-other, cut_by-before, cut_by-after}

-- the states of stays
abbrev pub states_of : List Stay → List BlockState
states_of stays = map (λ (stay : Stay). stay.state) stays

-- the stays of a scope and service that have a day
abbrev pub held : BlockState → ℕ → List Stay → List Stay
held matter day stays = filter (λ (stay : Stay). same_matter matter stay.state && has_day day stay) stays

-- one stay more, or not, of the same state
states_of-cond : (test : Bool) (stay other : Stay) (stays others : List Stay) → stay.state ≡ other.state
    → states_of stays ≡ states_of others
    → states_of (cond test (stay ∷ stays) stays) ≡ states_of (cond test (other ∷ others) others)
states_of-cond true stay other stays others same rest = rw (same, rest) refl
states_of-cond false stay other stays others same rest = rest

-- the states of cut stays that pass a test are those of the stays that pass another, where the tests agree so
states_of-cut : (state : BlockState) (test other : Stay → Bool)
    → ((stay : Stay) → test (cut_by state stay) ≡ other stay)
    → (stays : List Stay)
    → states_of (filter test (map (cut_by state) stays)) ≡ states_of (filter other stays)
states_of-cut state test other same [] = refl
states_of-cut state test other same (stay ∷ later) =
    rw (same stay)
    (states_of-cond (other stay) (cut_by state stay) stay (filter test (map (cut_by state) later))
    (filter other later)
    refl (states_of-cut state test other same later))

-- all cut stays are of the same states
states_of-cut_all : (state : BlockState) (stays : List Stay)
    → states_of (map (cut_by state) stays) ≡ states_of stays
states_of-cut_all state [] = refl
states_of-cut_all state (stay ∷ later) = rw (states_of-cut_all state later) refl

-- two filters one after the other, over the states
states_of-filter : (test : Stay → Bool) (other : BlockState → Bool) (stays : List Stay)
    → states_of (filter (λ (stay : Stay). test stay && other stay.state) stays)
    ≡ filter other (states_of (filter test stays))
states_of-filter test other [] = refl
states_of-filter test other (stay ∷ later) =
    by_tests (test stay) (other stay.state) refl refl (states_of-filter test other later)
  where
    by_tests : (one two : Bool) → test stay ≡ one → other stay.state ≡ two
        → states_of (filter (λ (stay : Stay). test stay && other stay.state) later)
        ≡ filter other (states_of (filter test later))
        → states_of (filter (λ (stay : Stay). test stay && other stay.state) (stay ∷ later))
        ≡ filter other (states_of (filter test (stay ∷ later)))
    by_tests true true is also rest =
        simp (is, also) (ap (λ (states : List BlockState). stay.state ∷ states) rest)
    by_tests true false is also rest = simp (is, also) rest
    by_tests false two is also rest = simp is rest

-- the last state, where one more is accepted
last_on-add : (states : List BlockState) (state matter : BlockState) (day : ℕ)
    → last_on (states ++ state ∷ []) matter day
    ≡ cond (same_matter matter state && nat_le state.day day) (later_of (last_on states matter day) state)
    (last_on states matter day)
last_on-add states state matter day =
    rw (filter-append, fold-append) (by_test (same_matter matter state && nat_le state.day day) refl)
  where
    by_test : (test : Bool) → (same_matter matter state && nat_le state.day day) ≡ test
        → fold later_of (last_on states matter day)
        (cond (same_matter matter state && nat_le state.day day) (state ∷ []) [])
        ≡ cond (same_matter matter state && nat_le state.day day) (later_of (last_on states matter day) state)
        (last_on states matter day)
    by_test true is = rw is refl
    by_test false is = rw is refl

-- the states of the stays that have a day, where one more is accepted
held-add : (stays : List Stay) (state matter : BlockState) (day : ℕ)
    → states_of (held matter day (with_stay stays state))
    ≡ states_of (held matter day (map (cut_by state) stays))
    ++ cond (same_matter matter state && (nat_le state.day day && is_before day (first_after stays state)))
    (state ∷ []) []
held-add stays state matter day =
    rw (filter-append, map-append)
    (ap (λ more. states_of (held matter day (map (cut_by state) stays)) ++ more)
    (by_test (same_matter matter state && (nat_le state.day day && is_before day (first_after stays state)))
    refl))
  where
    by_test : (test : Bool)
        → (same_matter matter state && (nat_le state.day day && is_before day (first_after stays state)))
        ≡ test
        → states_of (cond (same_matter matter state
        && (nat_le state.day day && is_before day (first_after stays state))) (stay_of stays state ∷ []) [])
        ≡ cond (same_matter matter state && (nat_le state.day day && is_before day (first_after stays state)))
        (state ∷ []) []
    by_test true is = rw is refl
    by_test false is = rw is refl

-- a state that was found is dated after another
abbrev is_later : BlockState → Option BlockState → Bool
is_later state None = false
is_later state (Some found) = nat_lt state.day found.day

-- the later of two is dated after a third where one of them is
is_later-later_of : (state : BlockState) (found : Option BlockState) (other : BlockState)
    → is_later state (later_of found other) ≡ (is_later state found || nat_lt state.day other.day)
is_later-later_of state None other = refl
is_later-later_of state (Some found) other =
    by_tests (nat_le found.day other.day) (nat_lt state.day found.day) refl refl
  where
    by_tests : (one two : Bool) → nat_le found.day other.day ≡ one → nat_lt state.day found.day ≡ two
        → is_later state (later_of (Some found) other)
        ≡ (nat_lt state.day found.day || nat_lt state.day other.day)
    by_tests true true is also =
        simp (is, also)
        (lt-ltb state.day other.day (omega (
          arith,
          leb-true found.day other.day is,
          ltb-true state.day found.day also,
        )))
    by_tests true false is also = simp (is, also)
    by_tests false true is also = simp (is, also)
    by_tests false false is also =
        simp (is, also)
        (sym (le-ltb state.day other.day (omega (
          arith,
          leb-false found.day other.day is,
          ltb-false state.day found.day also,
        ))))

-- a truth or a false one is itself
or_false : (one : Bool) → one ≡ (one || false)
or_false true = refl
or_false false = refl

-- of three truths
or_assoc : (one two three : Bool) → ((one || two) || three) ≡ (one || (two || three))
or_assoc true two three = refl
or_assoc false two three = refl

-- the last of the states that pass a test is dated after another where one of them is
is_later-fold : (state : BlockState) (test : BlockState → Bool) (found : Option BlockState)
    (states : List BlockState)
    → is_later state (fold later_of found (filter test states))
    ≡ (is_later state found || list_any (λ (other : BlockState). test other && nat_lt state.day other.day)
    states)
is_later-fold state test found [] = or_false (is_later state found)
is_later-fold state test found (other ∷ later) =
    by_test (test other) refl (λ first. is_later-fold state test first later)
  where
    by_test : (one : Bool) → test other ≡ one
        → ((first : Option BlockState) → is_later state (fold later_of first (filter test later))
        ≡ (is_later state first || list_any (λ (other : BlockState). test other && nat_lt state.day other.day)
        later))
        → is_later state (fold later_of found (filter test (other ∷ later)))
        ≡ (is_later state found || list_any (λ (other : BlockState). test other && nat_lt state.day other.day)
        (other ∷ later))
    by_test true is rest =
        simp is
        (rest (later_of found other) ∙ rw (is_later-later_of state found other)
        (or_assoc (is_later state found) (nat_lt state.day other.day) _))
    by_test false is rest = simp is (rest found)

-- a day is before the earlier of an end and another day where it is before both
lt-earlier_of : (day other : ℕ) (found : Option ℕ)
    → nat_lt day (earlier_of found other) ≡ (is_before day found && not (nat_le other day))
lt-earlier_of day other None = grind (arith, nat_tests)
lt-earlier_of day other (Some found) = grind (arith, nat_tests)

-- of two truths and one that is false
and_true : (one : Bool) → one ≡ (one && true)
and_true true = refl
and_true false = refl

-- and of three
and_assoc-not : (one two three : Bool) → ((one && not two) && not three) ≡ (one && not (two || three))
and_assoc-not true true three = refl
and_assoc-not true false three = refl
and_assoc-not false two three = refl

-- a stay begins after a state of its scope and service, and on or before a day
abbrev is_between : BlockState → ℕ → BlockState → Bool
is_between state day other = (same_matter state other && nat_le other.day day) && nat_lt state.day other.day

-- a day is before the sooner where it is before what was found, and the stay isn't between
is_before-sooner : (state : BlockState) (day : ℕ) (found : Option ℕ) (stay : Stay)
    → is_before day (sooner state found stay) ≡ (is_before day found && not (is_between state day stay.state))
is_before-sooner state day found stay =
    by_tests (same_matter state stay.state) (nat_lt state.day stay.state.day) refl refl
  where
    by_tests : (one two : Bool) → same_matter state stay.state ≡ one → nat_lt state.day stay.state.day ≡ two
        → is_before day (sooner state found stay)
        ≡ (is_before day found && not (is_between state day stay.state))
    by_tests true true is also = simp (is, also, ← and_true) (lt-earlier_of day stay.state.day found)
    by_tests true false is also = simp (is, also) (neither (nat_le stay.state.day day))
      where
        neither : (one : Bool) → is_before day found ≡ (is_before day found && not (one && false))
        neither true = and_true (is_before day found)
        neither false = and_true (is_before day found)
    by_tests false two is also = simp is (and_true (is_before day found))

-- and before the soonest where it is before what was found, and no stay is between
is_before-fold : (state : BlockState) (day : ℕ) (found : Option ℕ) (stays : List Stay)
    → is_before day (fold (sooner state) found stays)
    ≡ (is_before day found && not (list_any (is_between state day) (states_of stays)))
is_before-fold state day found [] = and_true (is_before day found)
is_before-fold state day found (stay ∷ later) =
    is_before-fold state day (sooner state found stay) later
    ∙ rw (is_before-sooner state day found stay)
    (and_assoc-not (is_before day found) (is_between state day stay.state)
    (list_any (is_between state day) (states_of later)))

-- a day is before the first day after a state's where the last state that day isn't dated after it
is_before-first_after : (states : List BlockState) (stays : List Stay) (state : BlockState) (day : ℕ)
    → AreStays states stays
    → is_before day (first_after stays state) ≡ not (is_later state (last_on states state day))
is_before-first_after states stays state day are =
    is_before-fold state day None stays
    ∙ ap (λ (among : List BlockState). not (list_any (is_between state day) among)) are.same
    ∙ ap not
    (sym (is_later-fold state (λ (other : BlockState). same_matter state other && nat_le other.day day) None
    states))

-- what was found, where it is later, and else the state, is the later of them
later-or_state : (found : Option BlockState) (state : BlockState)
    → filter (λ (other : BlockState). nat_lt state.day other.day) (option_to_list found)
    ++ cond (not (is_later state found)) (state ∷ []) []
    ≡ option_to_list (later_of found state)
later-or_state None state = refl
later-or_state (Some found) state = by_test (nat_lt state.day found.day) refl
  where
    by_test : (test : Bool) → nat_lt state.day found.day ≡ test
        → filter (λ (other : BlockState). nat_lt state.day other.day) (found ∷ [])
        ++ cond (not (nat_lt state.day found.day)) (state ∷ []) []
        ≡ option_to_list (later_of (Some found) state)
    by_test true is = simp (is, lt-leb found.day state.day (ltb-true state.day found.day is))
    by_test false is = simp (is, le-leb found.day state.day (ltb-false state.day found.day is))

-- from the day of an accepted state on, of its scope and service
held-after : (states : List BlockState) (stays : List Stay) (state : BlockState) (day : ℕ)
    → AreStays states stays → state.day ≤ day
    → states_of (held state day (with_stay stays state))
    ≡ option_to_list (last_on (states ++ state ∷ []) state day)
held-after states stays state day are late =
    let cut = states_of-cut state (λ (stay : Stay). same_matter state stay.state && has_day day stay)
    (λ (stay : Stay). (same_matter state stay.state && has_day day stay) && nat_lt state.day stay.state.day)
    (λ (stay : Stay). cut_by-after state day stay late) stays in
    let kept = states_of-filter (λ (stay : Stay). same_matter state stay.state && has_day day stay)
    (λ (other : BlockState). nat_lt state.day other.day) stays in
    rw (
      held-add stays state state day,
      cut,
      kept,
      are.last state day,
      last_on-add states state state day,
      same_matter-itself state,
      le-leb state.day day late,
      is_before-first_after states stays state day are,
    )
    (later-or_state (last_on states state day) state)

-- of another scope and service, and before the day
held-other : (states : List BlockState) (stays : List Stay) (state matter : BlockState) (day : ℕ)
    → AreStays states stays
    → ((stay : Stay) → (same_matter matter (cut_by state stay).state && has_day day (cut_by state stay))
    ≡ (same_matter matter stay.state && has_day day stay))
    → (same_matter matter state && nat_le state.day day) ≡ false
    → states_of (held matter day (with_stay stays state))
    ≡ option_to_list (last_on (states ++ state ∷ []) matter day)
held-other states stays state matter day are same out =
    let cut = states_of-cut state (λ (stay : Stay). same_matter matter stay.state && has_day day stay)
    (λ (stay : Stay). same_matter matter stay.state && has_day day stay) same stays in
    rw (
      held-add stays state matter day,
      cut,
      are.last matter day,
      last_on-add states state matter day,
      out,
      out-too (same_matter matter state) (nat_le state.day day) (is_before day (first_after stays state)) out,
    )
    (append-nil (option_to_list (last_on states matter day)))
  where
    out-too : (one two three : Bool) → (one && two) ≡ false → (one && (two && three)) ≡ false
    out-too true true three out = absurd (cc)
    out-too true false three out = refl
    out-too false two three out = refl

-- one more state leaves the stays of all states
pub AreStays-add : (states : List BlockState) (stays : List Stay) (state : BlockState) → AreStays states stays
    → AreStays (states ++ state ∷ []) (with_stay stays state)
AreStays-add states stays state are =
    record {
      same = rw (map-append, states_of-cut_all state stays, are.same) refl;
      last = λ matter day. by_test matter day (same_matter matter state) refl;
    }
  where
    by_test : (matter : BlockState) (day : ℕ) (test : Bool) → same_matter matter state ≡ test
        → states_of (held matter day (with_stay stays state))
        ≡ option_to_list (last_on (states ++ state ∷ []) matter day)
    by_test matter day false is =
        held-other states stays state matter day are (λ stay. cut_by-other matter state day stay is)
        (rw is refl)
    by_test matter day true is =
        elim (cases_lt day state.day) [
          | inl early ↦
              held-other states stays state matter day are (λ stay. cut_by-before matter state day stay early)
              (rw (is, lt-leb state.day day early) refl)
          | inr late ↦
              ap states_of (filter_agree (λ (stay : Stay). same_matter matter stay.state && has_day day stay)
              (λ (stay : Stay). same_matter state stay.state && has_day day stay)
              (λ stay. ap (λ (test : Bool). test && has_day day stay)
              (same_matter-as matter state stay.state is))
              (with_stay stays state))
              ∙ held-after states stays state day are late
              ∙ sym (ap (λ (among : List BlockState). option_to_list (fold later_of None among))
              (filter_agree (λ (other : BlockState). same_matter matter other && nat_le other.day day)
              (λ (other : BlockState). same_matter state other && nat_le other.day day)
              (λ other. ap (λ (test : Bool). test && nat_le other.day day)
              (same_matter-as matter state other is))
              (states ++ state ∷ [])))
        ]
