-- The days on which a flag turns are where it differs from the day before.
use Rattle.std.proofs.Common.{◌≡◌, ◌↔◌, ℕ, ◌-◌, ◌<◌, ◌≤◌, Bool, true, false, not, ◌&&◌, ◌||◌, nat_eq, nat_le}
use Rattle.std.proofs.Common.{List, [], ◌∷◌, length, get_or, All, AllPairs, Contains, refl, sym, ap, ◌∙◌}
use Rattle.std.proofs.Common.{arith}
use Rattle.std.specs.List.{list_any}
use Rattle.std.specs.List.Sorted.{IsPermutation, IsNonDecreasingBy}
use Rattle.std.proofs.lemmas.Bool.{and_parts, and_from, both_ways, eqb-true, eqb-false, eq-eqb, ne_eqb}
use Rattle.std.proofs.lemmas.Bool.{leb-true, leb-false, le-leb, lt-leb, or_from}
use Rattle.std.proofs.lemmas.List.Elements.{All-nil, All-cons, All-head, All-tail}
use Rattle.std.proofs.lemmas.List.Kept.{AllPairs-cons}
use Rattle.std.proofs.lemmas.List.Folds.{Any-from_list_any, list_any_at}
use Rattle.std.proofs.lemmas.List.Sorted.{All-permutation, list_any-IsPermutation, IsNonDecreasingBy-drop}
use Rattle.kb_blocking.specs.declared.state.Flag.{Flag}
use Rattle.kb_blocking.specs.declared.state.Chain.{Chain}
use Rattle.kb_blocking.specs.declared.stay.Stay.{Stay}
use Rattle.kb_blocking.specs.declared.stretch.Stretch.{Stretch}
use Rattle.kb_blocking.specs.Blocking.{differ}
use Rattle.kb_blocking.specs.Private.Stays.{is_before, has_day, counts, counts_on}
use Rattle.kb_blocking.specs.Private.Stretches.{covers, stretch_of, stretches_of, turn_days}
use Rattle.kb_blocking.proofs.CutStays.{is_before-earlier}
use Rattle.kb_blocking.proofs.Sweep.{AreOrdered, turned, turned-turns_from, AreRising, AreRising-turns_from}

-- rising days are all after the one before them
AreRising-all : (from : ℕ) (days : List ℕ) → AreRising from days → All (λ (day : ℕ). from < day) days
AreRising-all from [] rising = All-nil (λ (day : ℕ). from < day)
AreRising-all from (day ∷ later) rising =
    let here = rising.0 in
    let rest = AreRising-all day later rising.1 in
    All-cons (λ (other : ℕ). from < other) day later here
    (λ place other within. let low = rest place other within in omega (arith, here, low))

-- each of them is before those behind it
pub AreRising-pairs : (from : ℕ) (days : List ℕ) → AreRising from days
    → AllPairs (λ (earlier : ℕ) (later : ℕ). earlier < later) days
AreRising-pairs from [] rising = λ i j d before within. absurd (omega (arith, within))
AreRising-pairs from (day ∷ later) rising =
    AllPairs-cons (λ (earlier : ℕ) (later : ℕ). earlier < later) day later (AreRising-all day later rising.1)
    (AreRising-pairs day later rising.1)

-- the day before them is none of them
AreRising-none : (from : ℕ) (days : List ℕ) (day : ℕ) → day ≤ from → AreRising from days
    → list_any (nat_eq day) days ≡ false
AreRising-none from [] day low rising = refl
AreRising-none from (turn ∷ later) day low rising =
    let here = rising.0 in
    or_from (nat_eq day turn) (list_any (nat_eq day) later)
    (ne_eqb day turn (λ same. absurd (omega (arith, here, low, same))))
    (AreRising-none turn later day (omega (arith, here, low)) rising.1)

-- it differs from the day before on just these days
differ-turned : (day from : ℕ) (days : List ℕ) → AreRising from days
    → differ (turned day days) (turned (day - 1) days) ≡ list_any (nat_eq day) days
differ-turned day from [] rising = refl
differ-turned day from (turn ∷ later) rising =
    by_test (nat_eq day turn) refl (turned day later) (turned (day - 1) later)
    (differ-turned day turn later rising.1)
  where
    positive : 0 < turn
    positive = let here = rising.0 in omega (arith, here)

    flipped : (now before : Bool) → differ now before ≡ false → differ (not now) before ≡ true
    flipped true true same = refl
    flipped true false same = absurd (cc)
    flipped false true same = absurd (cc)
    flipped false false same = refl

    both : (begun now before : Bool) → differ (differ begun now) (differ begun before) ≡ differ now before
    both true true true = refl
    both true true false = refl
    both true false true = refl
    both true false false = refl
    both false now before = refl

    at_once : (test : Bool) → nat_le turn day ≡ test → nat_eq day turn ≡ false → nat_le turn (day - 1) ≡ test
    at_once true begun other =
        le-leb turn (day - 1) (let low = leb-true turn day begun in let not_it = eqb-false day turn other
        in omega (arith, low, not_it))
    at_once false early other =
        lt-leb turn (day - 1) (let low = leb-false turn day early in omega (arith, low, positive))

    by_test : (test : Bool) → nat_eq day turn ≡ test → (now before : Bool)
        → differ now before ≡ list_any (nat_eq day) later
        → differ (differ (nat_le turn day) now) (differ (nat_le turn (day - 1)) before)
        ≡ (nat_eq day turn || list_any (nat_eq day) later)
    by_test true is now before rest =
        let here = eqb-true day turn is in
        let none = AreRising-none turn later day (omega (arith, here)) rising.1 in
        rw (is, le-leb turn day (omega (arith, here)), lt-leb turn (day - 1) (omega (arith, here, positive)))
        (flipped now before (rest ∙ none))
    by_test false is now before rest =
        rw (is, at_once (nat_le turn day) refl is) (both (nat_le turn day) now before ∙ rest)

-- a day is among days where the test finds it
Contains-any : (day : ℕ) (days : List ℕ) → Contains days day ↔ (list_any (nat_eq day) days ≡ true)
Contains-any day days = (there, back)
  where
    there : Contains days day → list_any (nat_eq day) days ≡ true
    there found =
        list_any_at (nat_eq day) days found.0 day found.1 (eq-eqb day (get_or days found.0 day) (sym found.2))

    at : (place other : ℕ) → place < length days → get_or days place other ≡ other → day ≡ other
        → Contains days day
    at place other within is same = rw same (place, within, is)

    back : list_any (nat_eq day) days ≡ true → Contains days day
    back any =
        let found =
        Any-from_list_any (nat_eq day) days any in at found.0 found.1 found.2 found.3
        (eqb-true day found.1 found.4)

-- a stay that counts covers the day by its stretch
covers-stretches_of : (chain : Chain) (flag : Flag) (day : ℕ) (stays : List Stay)
    → list_any (covers day) (stretches_of chain flag stays) ≡ list_any (counts_on chain flag day) stays
covers-stretches_of chain flag day [] = refl
covers-stretches_of chain flag day (stay ∷ later) =
    by_tests (counts chain flag stay) (has_day stay.state.day stay) refl refl
    (covers-stretches_of chain flag day later)
  where
    none : (test : Bool) → has_day day stay ≡ test → has_day stay.state.day stay ≡ false
        → has_day day stay ≡ false
    none false is without = is
    none true is without =
        let parts = and_parts (nat_le stay.state.day day) (is_before day stay.until) is in
        let before =
        is_before-earlier stay.state.day day stay.until (leb-true stay.state.day day parts.0) parts.1 in
        absurd (both_ways (has_day stay.state.day stay) without
        (and_from (nat_le stay.state.day stay.state.day) (is_before stay.state.day stay.until)
        (le-leb stay.state.day stay.state.day (omega arith)) before))

    by_tests : (one two : Bool) → counts chain flag stay ≡ one → has_day stay.state.day stay ≡ two
        → list_any (covers day) (stretches_of chain flag later) ≡ list_any (counts_on chain flag day) later
        → list_any (covers day) (stretches_of chain flag (stay ∷ later))
        ≡ list_any (counts_on chain flag day) (stay ∷ later)
    by_tests true true is also rest = simp (is, also) (ap (λ (found : Bool). has_day day stay || found) rest)
    by_tests true false is also rest = simp (is, also, none (has_day day stay) refl also) rest
    by_tests false two is also rest = simp is rest

-- each stretch has its first day
stretches_of-begun : (chain : Chain) (flag : Flag) (stays : List Stay)
    → All (λ (stretch : Stretch). is_before stretch.from stretch.until ≡ true) (stretches_of chain flag stays)
stretches_of-begun chain flag [] =
    All-nil (λ (stretch : Stretch). is_before stretch.from stretch.until ≡ true)
stretches_of-begun chain flag (stay ∷ later) =
    by_test (counts chain flag stay && has_day stay.state.day stay) refl (stretches_of-begun chain flag later)
  where
    by_test : (test : Bool) → (counts chain flag stay && has_day stay.state.day stay) ≡ test
        → All (λ (stretch : Stretch). is_before stretch.from stretch.until ≡ true)
        (stretches_of chain flag later)
        → All (λ (stretch : Stretch). is_before stretch.from stretch.until ≡ true)
        (stretches_of chain flag (stay ∷ later))
    by_test true is rest =
        let parts = and_parts (counts chain flag stay) (has_day stay.state.day stay) is in
        let begun =
        (and_parts (nat_le stay.state.day stay.state.day) (is_before stay.state.day stay.until) parts.1).1 in
        rw is
        (All-cons (λ (stretch : Stretch). is_before stretch.from stretch.until ≡ true) (stretch_of stay)
        (stretches_of chain flag later) begun rest)
    by_test false is rest = rw is rest

-- sorted stretches that have their first days are in order
AreOrdered-sorted : (stretch : Stretch) (later : List Stretch)
    → IsNonDecreasingBy (λ (other : Stretch). other.from) (stretch ∷ later)
    → All (λ (other : Stretch). is_before other.from other.until ≡ true) later → AreOrdered stretch.from later
AreOrdered-sorted stretch [] sorted begun = tt
AreOrdered-sorted stretch (next ∷ later) sorted begun = (
  sorted 0 1 stretch (omega arith) (omega arith),
  All-head (λ (other : Stretch). is_before other.from other.until ≡ true) next later begun,
  AreOrdered-sorted next later
      (IsNonDecreasingBy-drop (λ (other : Stretch). other.from) 1 (stretch ∷ next ∷ later) sorted)
      (All-tail (λ (other : Stretch). is_before other.from other.until ≡ true) next later begun),
)

-- of sorted stretches it is on where one covers the day
turned-turn_days : (day : ℕ) (stretches : List Stretch)
    → IsNonDecreasingBy (λ (other : Stretch). other.from) stretches
    → All (λ (other : Stretch). is_before other.from other.until ≡ true) stretches
    → turned day (turn_days stretches) ≡ list_any (covers day) stretches
turned-turn_days day [] sorted begun = refl
turned-turn_days day (stretch ∷ later) sorted begun =
    turned-turns_from day stretch.from stretch.until later
    (All-head (λ (other : Stretch). is_before other.from other.until ≡ true) stretch later begun)
    (AreOrdered-sorted stretch later sorted (All-tail
    (λ (other : Stretch). is_before other.from other.until ≡ true) stretch later begun))

-- their turns rise
AreRising-turn_days : (stretches : List Stretch)
    → IsNonDecreasingBy (λ (other : Stretch). other.from) stretches
    → All (λ (other : Stretch). is_before other.from other.until ≡ true) stretches
    → All (λ (other : Stretch). 0 < other.from) stretches → AreRising 0 (turn_days stretches)
AreRising-turn_days [] sorted begun dated = tt
AreRising-turn_days (stretch ∷ later) sorted begun dated = (
  All-head (λ (other : Stretch). 0 < other.from) stretch later dated,
  AreRising-turns_from stretch.from stretch.until later
      (All-head (λ (other : Stretch). is_before other.from other.until ≡ true) stretch later begun)
      (AreOrdered-sorted stretch later sorted (All-tail
      (λ (other : Stretch). is_before other.from other.until ≡ true) stretch later begun)),
)

-- the stretches of stays, sorted by their first days
pub record AreSorted (chain : Chain) (flag : Flag) (stays : List Stay) (stretches : List Stretch) : Type 0
  where
    pub same : IsPermutation (stretches_of chain flag stays) stretches
    pub sorted : IsNonDecreasingBy (λ (stretch : Stretch). stretch.from) stretches
    pub dated : All (λ (stretch : Stretch). 0 < stretch.from) (stretches_of chain flag stays)

-- their turns rise, from a first day on
turn_days-rising : (chain : Chain) (flag : Flag) (stays : List Stay) (stretches : List Stretch)
    → AreSorted chain flag stays stretches
    → AreRising 0 (turn_days stretches)
turn_days-rising chain flag stays stretches are =
    AreRising-turn_days stretches are.sorted
    (All-permutation (λ (other : Stretch). is_before other.from other.until ≡ true)
    (stretches_of chain flag stays) stretches are.same (stretches_of-begun chain flag stays))
    (All-permutation (λ (other : Stretch). 0 < other.from) (stretches_of chain flag stays) stretches are.same
    are.dated)

-- and it is on where a stay counts
turn_days-on : (chain : Chain) (flag : Flag) (stays : List Stay) (stretches : List Stretch) (day : ℕ)
    → AreSorted chain flag stays stretches
    → turned day (turn_days stretches) ≡ list_any (counts_on chain flag day) stays
turn_days-on chain flag stays stretches day are =
    turned-turn_days day stretches are.sorted
    (All-permutation (λ (other : Stretch). is_before other.from other.until ≡ true)
    (stretches_of chain flag stays) stretches are.same (stretches_of-begun chain flag stays))
    ∙ sym (list_any-IsPermutation (covers day) (stretches_of chain flag stays) stretches are.same)
    ∙ covers-stretches_of chain flag day stays

-- the turns are in order
pub turn_days-pairs : (chain : Chain) (flag : Flag) (stays : List Stay) (stretches : List Stretch)
    → AreSorted chain flag stays stretches
    → AllPairs (λ (earlier : ℕ) (later : ℕ). earlier < later) (turn_days stretches)
turn_days-pairs chain flag stays stretches are =
    AreRising-pairs 0 (turn_days stretches) (turn_days-rising chain flag stays stretches are)

-- and are just the days that differ from the day before
pub turn_days-exactly : (chain : Chain) (flag : Flag) (stays : List Stay) (stretches : List Stretch)
    → AreSorted chain flag stays stretches
    → (day : ℕ) → Contains (turn_days stretches) day
    ↔
    (differ (list_any (counts_on chain flag day) stays) (list_any (counts_on chain flag (day - 1)) stays)
    ≡ true)
turn_days-exactly chain flag stays stretches are day =
    rw (
      ← turn_days-on chain flag stays stretches day are,
      ← turn_days-on chain flag stays stretches (day - 1) are,
      differ-turned day 0 (turn_days stretches) (turn_days-rising chain flag stays stretches are),
    )
    (Contains-any day (turn_days stretches))
