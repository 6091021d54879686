-- Two years have at most 731 days, also between cycle days that are cut to the end of February.
use Rattle.std.proofs.Common.{◌≡◌, ℕ, ◌+◌, ◌-◌, ◌/◌, ◌%◌, ◌<◌, ◌≤◌, inl, inr, cond, nat_lt, refl, arith, ℤ}
use Rattle.std.proofs.Common.{pos}
use Rattle.std.proofs.lemmas.Bool.{cases_lt, lt-ltb, le-ltb}
use Rattle.std.proofs.lemmas.Bool.Decides.{nat_tests}
use Rattle.jiff_core.specs.Calendar.{days_in_month, day_count, days_of_months}
use Rattle.jiff_core.proofs.SignedLemmas.{signed_arith}
use Rattle.jiff_core.proofs.MarchLemmas.{leap_day, days_in_year-leap_day}
use Rattle.jiff_core.proofs.CalendarLemmas.{day_count-day_of_year, day_count-next_year, days_of_months_table}
use Rattle.kb_days.specs.Calendar.{month_length, month_start, mark}
use Rattle.kb_days.proofs.CivilDates.{month_start-day_count}
use Rattle.kb_days.proofs.Marks.{mark-order}

-- a year has at most one leap day
leap_day-high : (y : ℤ) → leap_day y ≤ 1
leap_day-high y = grind arith

-- and none unless it is a fourth one
leap_day-none : (y : ℕ) → 0 < y % 4 → leap_day (pos y) ≡ 0
leap_day-none y h = grind (arith, nat_tests)

-- two years have at most one
leap_day-next : (y : ℕ) → leap_day (pos y) + leap_day (pos (y + 1)) ≤ 1
leap_day-next y =
    elim (cases_lt 0 (y % 4)) [
      | inl other ↦ let none =
          leap_day-none y other in let high = leap_day-high (pos (y + 1)) in omega (arith, none, high)
      | inr fourth ↦
          let none = leap_day-none (y + 1) (omega arith) in
          let high = leap_day-high (pos y) in
          omega (arith, none, high)
    ]

-- February has 28 days and the leap day
days_in_month-february : (y : ℤ) → days_in_month y 2 ≡ 28 + leap_day y
days_in_month-february y = grind arith

-- each other month is as long in each year
days_in_month-same : (y z : ℤ) (m : ℕ) → (m ≡ 2 → ⊥) → days_in_month y m ≡ days_in_month z m
days_in_month-same y z m h = grind (arith, nat_tests)

-- the days of a year's months before this one
month_start-year : (m y : ℕ) → y ≡ 1970 + m / 12
    → month_start m + 4_371_953 ≡ day_count (pos y) 1 1 + days_of_months (pos y) (m % 12)
month_start-year m y e =
    let back : m % 12 + 1 - 1 ≡ m % 12 = omega arith in
    let placed = rw back at (day_count-day_of_year (pos y) (m % 12 + 1) 1 (omega arith)) in
    let start : month_start m + 4_371_953 ≡ day_count (pos y) (m % 12 + 1) 1 = rw e
    (month_start-day_count m) in
    omega (arith, placed, start)

-- the year after the next begins 730 days and the leap days later
day_count-two_years : (y : ℕ) → day_count (pos (y + 2)) 1 1 ≡ day_count (pos y) 1 1 + 730 + leap_day (pos y)
    + leap_day (pos (y + 1))
day_count-two_years y =
    let first = day_count-next_year (pos y) (pos (y + 1)) (omega (arith, signed_arith))
    (omega (arith, signed_arith)) in
    let second = day_count-next_year (pos (y + 1)) (pos (y + 2)) (omega (arith, signed_arith))
    (omega (arith, signed_arith)) in
    omega (arith, first, second, days_in_year-leap_day (pos y), days_in_year-leap_day (pos (y + 1)))

-- and so does a month, which counts a leap day that comes before it
month_start-two_years : (m y : ℕ) → y ≡ 1970 + m / 12
    → month_start (m + 24) + cond (nat_lt 1 (m % 12)) (leap_day (pos y)) 0
    ≡ month_start m + 730 + leap_day (pos y) + leap_day (pos (y + 1)) + cond (nat_lt 1 (m % 12))
    (leap_day (pos (y + 2))) 0
month_start-two_years m y e =
    let same : (m + 24) % 12 ≡ m % 12 = omega arith in
    let start = month_start-year m y e in
    let later = rw same at (month_start-year (m + 24) (y + 2) (omega arith)) in
    let years = day_count-two_years y in
    let before = days_of_months_table (pos y) (m % 12) (omega arith) in
    let behind = days_of_months_table (pos (y + 2)) (m % 12) (omega arith) in
    omega (arith, start, later, years, before, behind)

-- the lengths of a month, and of the same month two years later
month_length-year : (m y : ℕ) → y ≡ 1970 + m / 12 → month_length m ≡ days_in_month (pos y) (m % 12 + 1)
unfolding month_length
month_length-year m y e = rw e refl

month_length-two_years : (m y : ℕ) → y ≡ 1970 + m / 12
    → month_length (m + 24) ≡ days_in_month (pos (y + 2)) (m % 12 + 1)
month_length-two_years m y e =
    let same : (m + 24) % 12 ≡ m % 12 = omega arith in
    rw same at (month_length-year (m + 24) (y + 2) (omega arith))

-- a cycle day comes at most 731 days before that of the same month two years later
mark-two_years : (m bcd : ℕ) → mark (m + 24) bcd ≤ mark m bcd + 731
mark-two_years m bcd =
    let y : ℕ = 1970 + m / 12 in
    let starts = month_start-two_years m y refl in
    let here = month_length-year m y refl in
    let there = month_length-two_years m y refl in
    let soon = leap_day-next y in
    let late = leap_day-next (y + 1) in
    by_month y starts here there soon (let two : y + 1 + 1 ≡ y + 2 = omega arith in rw two at late)
  where
    by_month : (y : ℕ)
        → month_start (m + 24) + cond (nat_lt 1 (m % 12)) (leap_day (pos y)) 0
        ≡ month_start m + 730 + leap_day (pos y) + leap_day (pos (y + 1)) + cond (nat_lt 1 (m % 12))
        (leap_day (pos (y + 2))) 0
        → month_length m ≡ days_in_month (pos y) (m % 12 + 1)
        → month_length (m + 24) ≡ days_in_month (pos (y + 2)) (m % 12 + 1)
        → leap_day (pos y) + leap_day (pos (y + 1)) ≤ 1 → leap_day (pos (y + 1)) + leap_day (pos (y + 2)) ≤ 1
        → mark (m + 24) bcd ≤ mark m bcd + 731
    by_month y starts here there soon late =
        elim (cases_lt 1 (m % 12)) [
          | inl after ↦
              let counted = rw (lt-ltb 1 (m % 12) after) at starts in
              let same = days_in_month-same (pos y) (pos (y + 2)) (m % 12 + 1) (λ e. omega arith) in
              omega (arith, counted, same, here, there, soon, late)
          | inr early ↦
              let counted = rw (le-ltb 1 (m % 12) early) at starts in
              elim (cases_lt (m % 12) 1) [
                | inl january ↦
                    let same = days_in_month-same (pos y) (pos (y + 2)) (m % 12 + 1) (λ e. omega arith) in
                    omega (arith, counted, same, here, there, soon, late)
                | inr february ↦
                    let second : m % 12 + 1 ≡ 2 = omega arith in
                    let short = rw second at here in
                    let long = rw second at there in
                    omega (
                      arith,
                      counted,
                      short,
                      long,
                      days_in_month-february (pos y),
                      days_in_month-february
                          (pos (y + 2)),
                      soon,
                      late,
                    )
              ]
        ]

-- so a period of up to two years has at most 731 days
pub mark-longest : (m count bcd : ℕ) → count ≤ 24 → mark (m + count) bcd ≤ mark m bcd + 731
mark-longest m count bcd h =
    let order = mark-order (m + count) (m + 24) bcd (omega arith) in
    let years = mark-two_years m bcd in
    omega (arith, order, years)
