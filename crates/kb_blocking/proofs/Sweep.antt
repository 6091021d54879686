-- The days on which a flag turns, where stretches follow in the order of their first days.
use Rattle.std.proofs.Common.{◌≡◌, ℕ, ◌<◌, ◌≤◌, Bool, true, false, ◌&&◌, ◌||◌, nat_le, nat_lt, List, [], ◌∷◌}
use Rattle.std.proofs.Common.{Option, Some, None, option_to_list, refl, ap, ◌∙◌, arith}
use Rattle.std.specs.Prelude.{⊤}
use Rattle.std.specs.List.{list_any}
use Rattle.std.proofs.lemmas.Bool.Decides.{nat_tests}
use Rattle.std.proofs.lemmas.Bool.{leb-true, leb-false, lt-leb, ltb-true, lt-ltb, le-ltb, or_from, and_left}
use Rattle.kb_blocking.specs.declared.stretch.Stretch.{Stretch}
use Rattle.kb_blocking.specs.Blocking.{differ}
use Rattle.kb_blocking.specs.Private.Stays.{is_before}
use Rattle.kb_blocking.specs.Private.Stretches.{covers, touches, later_end, turns_from}

-- stretches with days, in the order of their first days, of which none is before a day
abbrev pub AreOrdered : ℕ → List Stretch → Type 0
AreOrdered from [] = ⊤
AreOrdered from (stretch ∷ later) =
    (from ≤ stretch.from) × (is_before stretch.from stretch.until ≡ true) × AreOrdered stretch.from later

-- how it stands on a day, where it turns on these days and is off at first
abbrev pub turned : ℕ → List ℕ → Bool
turned day [] = false
turned day (turn ∷ later) = differ (nat_le turn day) (turned day later)

-- they are ordered from each earlier day
AreOrdered-earlier : (from later : ℕ) (stretches : List Stretch) → from ≤ later → AreOrdered later stretches
    → AreOrdered from stretches
AreOrdered-earlier from later [] low ordered = tt
AreOrdered-earlier from later (stretch ∷ others) low ordered =
    let here = ordered.0 in (omega (arith, here), ordered.1, ordered.2)

-- before the first of them none covers a day
covers-none : (day from : ℕ) (stretches : List Stretch) → day < from → AreOrdered from stretches
    → list_any (covers day) stretches ≡ false
covers-none day from [] early ordered = refl
covers-none day from (stretch ∷ later) early ordered =
    let here = ordered.0 in
    or_from (covers day stretch) (list_any (covers day) later)
    (and_left (nat_le stretch.from day) (is_before day stretch.until)
    (lt-leb stretch.from day (omega (arith, here))))
    (covers-none day stretch.from later (omega (arith, here)) ordered.2)

-- the later of two ends is behind a day where the first is
is_before-later_end : (day : ℕ) (until other : Option ℕ) → is_before day until ≡ true
    → is_before day (later_end until other) ≡ true
is_before-later_end day None other before = refl
is_before-later_end day (Some until) None before = refl
is_before-later_end day (Some until) (Some other) before = grind (arith, nat_tests)

-- what begins before the end of another makes one stretch with it
covers-touching : (day from : ℕ) (until : Option ℕ) (stretch : Stretch) → from ≤ stretch.from
    → touches until stretch.from ≡ true
    → (nat_le from day && is_before day (later_end until stretch.until))
    ≡ ((nat_le from day && is_before day until) || covers day stretch)
covers-touching day from until stretch low touching = by_ends until stretch.until touching
  where
    by_ends : (until other : Option ℕ) → touches until stretch.from ≡ true
        → (nat_le from day && is_before day (later_end until other))
        ≡ ((nat_le from day && is_before day until) || (nat_le stretch.from day && is_before day other))
    by_ends None other touching = grind (arith, nat_tests)
    by_ends (Some until) None touching = grind (arith, nat_tests)
    by_ends (Some until) (Some other) touching = grind (arith, nat_tests)

-- of three truths
or_assoc : (one two three : Bool) → ((one || two) || three) ≡ (one || (two || three))
or_assoc true two three = refl
or_assoc false two three = refl

-- one stretch alone
turned-one : (day from : ℕ) (until : Option ℕ) → is_before from until ≡ true
    → turned day (from ∷ option_to_list until) ≡ ((nat_le from day && is_before day until) || false)
turned-one day from None before = by_test (nat_le from day)
  where
    by_test : (test : Bool) → differ test false ≡ ((test && true) || false)
    by_test true = refl
    by_test false = refl
turned-one day from (Some until) before = by_tests (nat_le from day) (nat_le until day) refl refl
  where
    order : from < until
    order = ltb-true from until before

    by_tests : (one two : Bool) → nat_le from day ≡ one → nat_le until day ≡ two
        → turned day (from ∷ until ∷ []) ≡ ((nat_le from day && nat_lt day until) || false)
    by_tests true true begun over = simp (begun, over, le-ltb day until (leb-true until day over))
    by_tests true false begun over = simp (begun, over, lt-ltb day until (leb-false until day over))
    by_tests false true early over =
        absurd (omega (arith, order, leb-false from day early, leb-true until day over))
    by_tests false false early over = simp (early, over)

-- a stretch before others
turned-before : (day from until : ℕ) (later : List ℕ) (covered : Bool) → from < until
    → (day < until → covered ≡ false)
    → turned day later ≡ covered
    → turned day (from ∷ until ∷ later) ≡ ((nat_le from day && nat_lt day until) || covered)
turned-before day from until later covered order before same =
    by_tests (nat_le from day) (nat_le until day) refl refl
  where
    twice : (one : Bool) → differ true (differ true one) ≡ one
    twice true = refl
    twice false = refl

    by_tests : (one two : Bool) → nat_le from day ≡ one → nat_le until day ≡ two
        → turned day (from ∷ until ∷ later) ≡ ((nat_le from day && nat_lt day until) || covered)
    by_tests true true begun over =
        simp (begun, over, same, le-ltb day until (leb-true until day over)) (twice covered)
    by_tests true false begun over =
        let low = leb-false until day over in
        simp (begun, over, same, before low, lt-ltb day until low)
    by_tests false true early over =
        absurd (omega (arith, order, leb-false from day early, leb-true until day over))
    by_tests false false early over = simp (early, over, same)

-- it is on where a stretch covers the day
pub turned-turns_from : (day from : ℕ) (until : Option ℕ) (later : List Stretch) → is_before from until ≡ true
    → AreOrdered from later
    → turned day (from ∷ turns_from until later)
    ≡ ((nat_le from day && is_before day until) || list_any (covers day) later)
turned-turns_from day from until [] before ordered = turned-one day from until before
turned-turns_from day from until (stretch ∷ later) before ordered =
    by_test until (touches until stretch.from) refl before
    (turned-turns_from day from (later_end until stretch.until) later
    (is_before-later_end from until stretch.until before)
    (AreOrdered-earlier from stretch.from later ordered.0 ordered.2))
    (turned-turns_from day stretch.from stretch.until later ordered.1 ordered.2)
  where
    by_test : (until : Option ℕ) (test : Bool) → touches until stretch.from ≡ test
        → is_before from until ≡ true
        → turned day (from ∷ turns_from (later_end until stretch.until) later)
        ≡ ((nat_le from day && is_before day (later_end until stretch.until)) || list_any (covers day) later)
        → turned day (stretch.from ∷ turns_from stretch.until later)
        ≡ (covers day stretch || list_any (covers day) later)
        → turned day (from ∷ turns_from until (stretch ∷ later))
        ≡ ((nat_le from day && is_before day until) || (covers day stretch || list_any (covers day) later))
    by_test until true touching before joined apart =
        rw touching
        (joined
        ∙ ap (λ (one : Bool). one || list_any (covers day) later)
        (covers-touching day from until stretch ordered.0 touching)
        ∙ or_assoc (nat_le from day && is_before day until) (covers day stretch)
        (list_any (covers day) later))
    by_test None false apart_is before joined apart = absurd (cc)
    by_test (Some until) false apart_is before joined apart =
        let after = leb-false stretch.from until apart_is in
        rw apart_is
        (turned-before day from until (stretch.from ∷ turns_from stretch.until later)
        (covers day stretch || list_any (covers day) later)
        (ltb-true from until before)
        (λ low. covers-none day stretch.from (stretch ∷ later) (omega (arith, after, low))
        (omega arith, ordered.1, ordered.2))
        apart)

-- days of which each is after the one before
abbrev pub AreRising : ℕ → List ℕ → Type 0
AreRising from [] = ⊤
AreRising from (day ∷ later) = (from < day) × AreRising day later

-- the days on which it turns rise
pub AreRising-turns_from : (from : ℕ) (until : Option ℕ) (later : List Stretch) → is_before from until ≡ true
    → AreOrdered from later
    → AreRising from (turns_from until later)
AreRising-turns_from from None [] before ordered = tt
AreRising-turns_from from (Some until) [] before ordered = (ltb-true from until before, tt)
AreRising-turns_from from until (stretch ∷ later) before ordered =
    by_test until (touches until stretch.from) refl before
    (AreRising-turns_from from (later_end until stretch.until) later
    (is_before-later_end from until stretch.until before)
    (AreOrdered-earlier from stretch.from later ordered.0 ordered.2))
    (AreRising-turns_from stretch.from stretch.until later ordered.1 ordered.2)
  where
    by_test : (until : Option ℕ) (test : Bool) → touches until stretch.from ≡ test
        → is_before from until ≡ true
        → AreRising from (turns_from (later_end until stretch.until) later)
        → AreRising stretch.from (turns_from stretch.until later)
        → AreRising from (turns_from until (stretch ∷ later))
    by_test until true touching before joined apart = rw touching joined
    by_test None false apart_is before joined apart = absurd (cc)
    by_test (Some until) false apart_is before joined apart =
        rw apart_is (ltb-true from until before, (leb-false stretch.from until apart_is, apart))
