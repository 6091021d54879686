-- Which days the stays have, where one more state is accepted.
use Rattle.std.proofs.Common.{◌≡◌, ℕ, ◌<◌, ◌≤◌, Bool, true, false, ◌&&◌, nat_le, nat_lt, Option, Some, None}
use Rattle.std.proofs.Common.{refl, sym, ◌∙◌, arith}
use Rattle.std.proofs.lemmas.Bool.{and_parts, and_right, both_ways, leb-true, leb-false, lt-ltb, le-ltb}
use Rattle.std.proofs.lemmas.Bool.{ltb-true}
use Rattle.kb_blocking.specs.declared.state.BlockState.{BlockState}
use Rattle.kb_blocking.specs.declared.stay.Stay.{Stay}
use Rattle.kb_blocking.specs.Blocking.{same_matter}
use Rattle.kb_blocking.specs.Private.Stays.{is_before, has_day, cut_by}
use Rattle.kb_blocking.proofs.Matters.{same_matter-through}

-- a day before one that is before an end is before the end too
pub is_before-earlier : (day later : ℕ) (end : Option ℕ) → day ≤ later → is_before later end ≡ true
    → is_before day end ≡ true
is_before-earlier day later None low before = refl
is_before-earlier day later (Some end) low before =
    let here = ltb-true later end before in lt-ltb day end (omega arith)

-- of another scope and service, it has the days that it had
pub cut_by-other : (matter state : BlockState) (day : ℕ) (stay : Stay) → same_matter matter state ≡ false
    → (same_matter matter (cut_by state stay).state && has_day day (cut_by state stay))
    ≡ (same_matter matter stay.state && has_day day stay)
cut_by-other matter state day stay other =
    by_test (same_matter state stay.state && has_day state.day stay) refl
  where
    unlike : (test : Bool) → same_matter matter stay.state ≡ test → same_matter state stay.state ≡ true
        → same_matter matter stay.state ≡ false
    unlike true is here =
        absurd
        (both_ways (same_matter matter state) other (same_matter-through matter state stay.state is here))
    unlike false is here = is

    by_test : (test : Bool) → (same_matter state stay.state && has_day state.day stay) ≡ test
        → (same_matter matter (cut_by state stay).state && has_day day (cut_by state stay))
        ≡ (same_matter matter stay.state && has_day day stay)
    by_test true is = rw (is, unlike (same_matter matter stay.state) refl (and_parts _ _ is).0) refl
    by_test false is = rw is refl

-- before the day of the state it has the days that it had
pub cut_by-before : (matter state : BlockState) (day : ℕ) (stay : Stay) → day < state.day
    → (same_matter matter (cut_by state stay).state && has_day day (cut_by state stay))
    ≡ (same_matter matter stay.state && has_day day stay)
cut_by-before matter state day stay early =
    by_test (same_matter state stay.state && has_day state.day stay) refl
  where
    by_test : (test : Bool) → (same_matter state stay.state && has_day state.day stay) ≡ test
        → (same_matter matter (cut_by state stay).state && has_day day (cut_by state stay))
        ≡ (same_matter matter stay.state && has_day day stay)
    by_test true is =
        let before =
        (and_parts (nat_le stay.state.day state.day) _ (and_parts (same_matter state stay.state) _ is).1).1 in
        rw (is, lt-ltb day state.day early, is_before-earlier day state.day stay.until (omega arith) before)
        refl
    by_test false is = rw is refl

-- a truth that is false beside one is false beside another
and_false : (one other : Bool) → (one && false) ≡ (other && false)
and_false one other = and_right one false refl ∙ sym (and_right other false refl)

-- what is false stays so
and_false-more : (one other : Bool) → (one && false) ≡ ((one && false) && other)
and_false-more true other = refl
and_false-more false other = refl

-- beside a truth that is true, one is itself
and_true : (one : Bool) → one ≡ (one && true)
and_true true = refl
and_true false = refl

-- from the day of the state on, one of its scope and service has the days that it had, if it begins later,
-- and else none
pub cut_by-after : (state : BlockState) (day : ℕ) (stay : Stay) → state.day ≤ day
    → (same_matter state (cut_by state stay).state && has_day day (cut_by state stay))
    ≡ ((same_matter state stay.state && has_day day stay) && nat_lt state.day stay.state.day)
cut_by-after state day stay late =
    by_tests (same_matter state stay.state) (nat_le stay.state.day state.day) (is_before state.day stay.until)
    refl refl refl
  where
    over : (test : Bool) → is_before day stay.until ≡ test → is_before state.day stay.until ≡ false
        → is_before day stay.until ≡ false
    over true is past =
        absurd
        (both_ways (is_before state.day stay.until) past (is_before-earlier state.day day stay.until late is))
    over false is past = is

    by_tests : (same begun before : Bool) → same_matter state stay.state ≡ same
        → nat_le stay.state.day state.day ≡ begun
        → is_before state.day stay.until ≡ before
        → (same_matter state (cut_by state stay).state && has_day day (cut_by state stay))
        ≡ ((same_matter state stay.state && has_day day stay) && nat_lt state.day stay.state.day)
    by_tests false begun before is_same is_begun is_left = rw is_same refl
    by_tests true true true is_same is_begun is_left =
        simp (
          is_same,
          is_begun,
          is_left,
          le-ltb day state.day late,
          le-ltb state.day stay.state.day (leb-true stay.state.day state.day is_begun),
        )
        (and_false (nat_le stay.state.day day) (has_day day stay))
    by_tests true true false is_same is_begun is_left =
        simp (is_same, is_begun, is_left, over (is_before day stay.until) refl is_left)
        (and_false-more (nat_le stay.state.day day) (nat_lt state.day stay.state.day))
    by_tests true false before is_same is_begun is_left =
        simp
        (is_same, is_begun, lt-ltb state.day stay.state.day (leb-false stay.state.day state.day is_begun))
        (and_true (has_day day stay))
