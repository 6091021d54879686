-- The period of a day as a search finds it, day by day.
use Rattle.std.specs.Prelude.{ℕ, zero, suc, ◌+◌, ◌-◌, ◌%◌, ◌≡◌, Bool, false, ◌&&◌, nat_eq, nat_le, nat_lt}
use Rattle.std.specs.Prelude.{if◌then◌else◌, Option, Some, None, refl}
use Rattle.kb_days.specs.Calendar.{mark, month_of, month_after, month_start, month_length}
use Rattle.kb_days.specs.Dates.{january, february, march, april}
use Rattle.kb_days.specs.Periods.{period_days, period_months}
use Rattle.kb_days.specs.declared.period.Period.{Period}
use Rattle.kb_days.specs.declared.period.Period.TheVariants.{Monthly, ThirtyDays}

-- the first month whose day of this number lies on or after a start, by a look at the start's month
unfoldable pub first_month : ℕ → ℕ → ℕ
first_month start bcd =
    if nat_lt (mark (month_of start) bcd) start then month_of start + 1 else month_of start

-- whether a day is a boundary of the periods of a phase that starts on or before it
abbrev pub is_day_boundary : ℕ → ℕ → ℕ → Bool
is_day_boundary count start day = nat_le start day && nat_eq ((day - start) % count) 0

abbrev pub is_month_boundary : ℕ → ℕ → ℕ → ℕ → Bool
is_month_boundary count start bcd day =
    nat_eq (mark (month_of day) bcd) day && nat_eq (month_of day % count) (first_month start bcd % count)

unfoldable pub is_boundary : ℕ → Period → ℕ → ℕ → Bool
is_boundary start period bcd day = by_days (period_days period) (period_months period)
  where
    by_days : Option ℕ → Option ℕ → Bool
    by_days (Some count) months = is_day_boundary count start day
    by_days None (Some count) = is_month_boundary count start bcd day
    by_days None None = false

-- the greatest day up to a day that passes a test, else 0
unfoldable pub last_day_on : (ℕ → Bool) → ℕ → ℕ
last_day_on test zero = 0
last_day_on test (suc before) = if test (suc before) then suc before else last_day_on test before

-- the least day after a day that passes a test, among this many
unfoldable pub next_day_after : (ℕ → Bool) → ℕ → ℕ → ℕ
next_day_after test zero day = day
next_day_after test (suc more) day = if test (day + 1) then day + 1 else next_day_after test more (day + 1)

-- how many days a period may have: two years, one of which is a leap year
abbrev pub max_period_days : ℕ
max_period_days = 731

-- the period of a day, day by day: back to the last boundary, and on to the next one
unfoldable pub period_on : ℕ → Period → ℕ → ℕ → ℕ × ℕ
period_on start period bcd day = (
  last_day_on (is_boundary start period bcd) day,
  next_day_after (is_boundary start period bcd) max_period_days day,
)

-- by the 31st, the period of 15 February 2024 goes from 31 January to 29 February
in_february : period_on (january 31) Monthly 31 (february 15) ≡ (january 31, february 29)
unfolding
    period_on last_day_on next_day_after is_boundary
    first_month month_of month_after month_start month_length
in_february = refl

-- and that of 1 April 2024 by 30 days from 1 March on begins on 31 March
thirty_days : period_on (march 1) ThirtyDays 1 (april 1) ≡ (march 31, april 30)
unfolding period_on last_day_on next_day_after is_boundary
thirty_days = refl
