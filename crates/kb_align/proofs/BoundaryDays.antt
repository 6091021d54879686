-- The test of a day finds the boundaries of billing periods, and so the search finds the period of a day.
use Rattle.std.proofs.Common.{◌≡◌, ℕ, ◌+◌, ◌-◌, ◌*◌, ◌/◌, ◌%◌, ◌≤◌, true, false, nat_eq, nat_le, Option, Some}
use Rattle.std.proofs.Common.{None, inl, inr, refl, sym, ap, ◌∙◌, arith}
use Rattle.std.proofs.Math.Nat.{mod-add-div', mul-mod_left}
use Rattle.std.proofs.lemmas.Bool.{cases_lt, lt-ltb, le-ltb, le-leb, leb-true, eq-eqb, eqb-true, and_from}
use Rattle.std.proofs.lemmas.Bool.{and_parts, false_from_ne_true, false≢true}
use Rattle.kb_days.specs.Calendar.{mark, month_of}
use Rattle.kb_days.specs.Periods.{period_days, period_months}
use Rattle.kb_days.specs.declared.period.Period.{Period}
use Rattle.kb_days.proofs.Months.{month_of-mark}
use Rattle.kb_align.specs.Boundaries.{IsFirstMonth, IsDayBoundary, IsMonthBoundary, IsBoundary, IsPeriodOf}
use Rattle.kb_align.specs.PeriodDays.{max_period_days, first_month, is_day_boundary, is_month_boundary}
use Rattle.kb_align.specs.PeriodDays.{is_boundary, last_day_on, next_day_after, period_on}
use Rattle.kb_align.proofs.FirstMonths.{IsFirstMonth-here, IsFirstMonth-next, IsFirstMonth-only}
use Rattle.kb_align.proofs.Lengths.{days_or_months}
use Rattle.kb_align.proofs.Searches.{last_day_on-is, next_day_after-is}

-- a day whole periods after the start passes the test
is_day_boundary-true : (count start day : ℕ) → IsDayBoundary count start day
    → is_day_boundary count start day ≡ true
is_day_boundary-true count start day (times, is) =
    let gone : day - start ≡ times * count = omega arith in
    let none_left : (day - start) % count ≡ 0 = ap (λ n. n % count) gone ∙ mul-mod_left times count in
    and_from (nat_le start day) (nat_eq ((day - start) % count) 0) (le-leb start day (omega arith))
    (eq-eqb ((day - start) % count) 0 none_left)

-- and no other does
IsDayBoundary-true : (count start day : ℕ) → is_day_boundary count start day ≡ true
    → IsDayBoundary count start day
IsDayBoundary-true count start day passed =
    let parts = and_parts (nat_le start day) (nat_eq ((day - start) % count) 0) passed in
    let begun = leb-true start day parts.0 in
    let none_left = eqb-true ((day - start) % count) 0 parts.1 in
    let whole = mod-add-div' (day - start) count in
    ((day - start) / count, omega (arith, begun, none_left, whole))

-- the first month is found by a look at the start's month
pub IsFirstMonth-first_month : (start bcd : ℕ) → IsFirstMonth start bcd (first_month start bcd)
unfolding first_month
IsFirstMonth-first_month start bcd =
    elim (cases_lt (mark (month_of start) bcd) start) [
      | inl early ↦
          rw (lt-ltb (mark (month_of start) bcd) start early)
          (IsFirstMonth-next start bcd (month_of start + 1) refl early)
      | inr on ↦
          rw (le-ltb (mark (month_of start) bcd) start on)
          (IsFirstMonth-here start bcd (month_of start) refl on)
    ]

-- the cycle day of a month that lies whole periods from the first one passes the test
is_month_boundary-true : (count start bcd day : ℕ) → IsMonthBoundary count start bcd day
    → is_month_boundary count start bcd day ≡ true
is_month_boundary-true count start bcd day (first, month, is, aligned, marked) =
    let here : month_of day ≡ month = ap month_of marked ∙ month_of-mark month bcd in
    let found =
    IsFirstMonth-only start bcd first (first_month start bcd) is (IsFirstMonth-first_month start bcd) in
    and_from (nat_eq (mark (month_of day) bcd) day)
    (nat_eq (month_of day % count) (first_month start bcd % count))
    (eq-eqb (mark (month_of day) bcd) day (ap (λ m. mark m bcd) here ∙ sym marked))
    (eq-eqb (month_of day % count) (first_month start bcd % count)
    (ap (λ m. m % count) here ∙ aligned ∙ ap (λ m. m % count) found))

-- and no other day does
IsMonthBoundary-true : (count start bcd day : ℕ) → is_month_boundary count start bcd day ≡ true
    → IsMonthBoundary count start bcd day
IsMonthBoundary-true count start bcd day passed =
    let parts =
    and_parts (nat_eq (mark (month_of day) bcd) day)
    (nat_eq (month_of day % count) (first_month start bcd % count)) passed in (
      first_month start bcd,
      month_of day,
      IsFirstMonth-first_month start bcd,
      eqb-true (month_of day % count) (first_month start bcd % count) parts.1,
      sym (eqb-true (mark (month_of day) bcd) day parts.0),
    )

-- a period that is counted in months isn't counted in days
period_days-none : (period : Period) (months : ℕ) → period_months period ≡ Some months
    → period_days period ≡ None
period_days-none period months is = by_days (period_days period) refl
  where
    by_days : (days : Option ℕ) → period_days period ≡ days → period_days period ≡ None
    by_days None e = e
    by_days (Some days) e = absurd (days_or_months period days months e is)

-- the test of a period of days is that of its days
is_boundary-days : (start : ℕ) (period : Period) (bcd day count : ℕ) → period_days period ≡ Some count
    → is_boundary start period bcd day ≡ is_day_boundary count start day
unfolding is_boundary
is_boundary-days start period bcd day count is = rw is refl

-- and that of a period of months is that of its months
is_boundary-months : (start : ℕ) (period : Period) (bcd day count : ℕ) → period_days period ≡ None
    → period_months period ≡ Some count
    → is_boundary start period bcd day ≡ is_month_boundary count start bcd day
unfolding is_boundary
is_boundary-months start period bcd day count not_days is = rw (not_days, is) refl

-- a period of neither has no boundary
is_boundary-none : (start : ℕ) (period : Period) (bcd day : ℕ) → period_days period ≡ None
    → period_months period ≡ None → is_boundary start period bcd day ≡ false
unfolding is_boundary
is_boundary-none start period bcd day not_days not_months = rw (not_days, not_months) refl

-- a boundary passes the test
pub is_boundary-true : (start : ℕ) (period : Period) (bcd day : ℕ) → IsBoundary start period bcd day
    → is_boundary start period bcd day ≡ true
is_boundary-true start period bcd day (inl (count, is, bound)) =
    is_boundary-days start period bcd day count is ∙ is_day_boundary-true count start day bound
is_boundary-true start period bcd day (inr (count, is, bound)) =
    is_boundary-months start period bcd day count (period_days-none period count is) is
    ∙ is_month_boundary-true count start bcd day bound

-- and no other day does
pub IsBoundary-true : (start : ℕ) (period : Period) (bcd day : ℕ) → is_boundary start period bcd day ≡ true
    → IsBoundary start period bcd day
IsBoundary-true start period bcd day passed = by_length (period_days period) (period_months period) refl refl
  where
    by_length : (days months : Option ℕ) → period_days period ≡ days → period_months period ≡ months
        → IsBoundary start period bcd day
    by_length (Some count) months is other =
        inl (
          count,
          is,
          IsDayBoundary-true count start day
              (sym (is_boundary-days start period bcd day count is) ∙ passed),
        )
    by_length None (Some count) not_days is =
        inr (
          count,
          is,
          IsMonthBoundary-true count start bcd day
              (sym (is_boundary-months start period bcd day count not_days is) ∙ passed),
        )
    by_length None None not_days not_months =
        absurd (false≢true (sym (is_boundary-none start period bcd day not_days not_months) ∙ passed))

-- the search finds the period of a day, if that is no longer than a period may be
pub period_on-IsPeriodOf : (start : ℕ) (period : Period) (bcd day from to : ℕ)
    → IsPeriodOf start period bcd day from to → to ≤ from + max_period_days
    → period_on start period bcd day ≡ (from, to)
unfolding period_on
period_on-IsPeriodOf start period bcd day from to is short =
    rw (back, on) refl
  where
    begun : from ≤ day
    begun = is.begun

    none : (other : ℕ) → (IsBoundary start period bcd other → ⊥) → is_boundary start period bcd other ≡ false
    none other not_one =
        false_from_ne_true (is_boundary start period bcd other)
        (λ passed. not_one (IsBoundary-true start period bcd other passed))

    back : last_day_on (is_boundary start period bcd) day ≡ from
    back =
        last_day_on-is (is_boundary start period bcd) from day is.begun
        (is_boundary-true start period bcd from is.from_such)
        (λ other after up_to. none other (λ bound. let low =
        is.greatest other bound up_to in omega (arith, after, low)))

    on : next_day_after (is_boundary start period bcd) max_period_days day ≡ to
    on =
        next_day_after-is (is_boundary start period bcd) max_period_days day to is.over
        (omega (arith, begun, short)) (is_boundary-true start period bcd to is.to_such)
        (λ other after before. none other (λ bound. let high =
        is.least other bound after in omega (arith, before, high)))
