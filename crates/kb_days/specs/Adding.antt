-- The day that comes a span after another.
use Rattle.std.specs.Prelude.{ℕ, ◌+◌, ◌*◌, ◌≡◌, nat_le, if◌then◌else◌, Option, Some, None, refl}
use Rattle.kb_days.specs.Calendar.{last_reach, mark, month_of, day_of_month, month_after, month_start}
use Rattle.kb_days.specs.Calendar.{month_length}
use Rattle.kb_days.specs.Dates.{january, february, march, february_2025, february_2028}
use Rattle.kb_days.specs.declared.span.Span.{Span}
use Rattle.kb_days.specs.declared.span.Span.TheVariants.{Days, Weeks, Months, Years, Unlimited}

-- the day so many months after another: the same number in its month, or the month's last day
abbrev pub add_months : ℕ → ℕ → ℕ
add_months day months = mark (month_of day + months) (day_of_month day)

-- the day that comes a span after another; none comes after an unlimited one
abbrev pub add_span : ℕ → Span → Option ℕ
add_span day (Days count) = Some (day + count)
add_span day (Weeks count) = Some (day + 7 * count)
add_span day (Months count) = Some (add_months day count)
add_span day (Years count) = Some (add_months day (12 * count))
add_span day Unlimited = None

two_weeks_from_10_march : add_span (march 10) (Weeks 2) ≡ Some (march 24)
two_weeks_from_10_march = refl

a_month_from_31_january : add_span (january 31) (Months 1) ≡ Some (february 29)
unfolding day_of_month month_of month_after month_start month_length
a_month_from_31_january = refl

a_year_from_29_february : add_span (february 29) (Years 1) ≡ Some (february_2025 28)
unfolding day_of_month month_of month_after month_start month_length
a_year_from_29_february = refl

four_years_from_29_february : add_span (february 29) (Years 4) ≡ Some (february_2028 29)
unfolding day_of_month month_of month_after month_start month_length
four_years_from_29_february = refl

-- a day, if it may follow from a named one
abbrev pub reached : ℕ → Option ℕ
reached day = if nat_le day last_reach then Some day else None
