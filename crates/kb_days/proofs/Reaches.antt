-- The months of the days that may follow from a named one.
use Rattle.std.proofs.Common.{◌≡◌, ℕ, ◌+◌, ◌<◌, ◌≤◌, refl, arith}
use Rattle.kb_days.specs.Calendar.{first_reach, last_reach, month_length, month_start, mark, month_of}
use Rattle.kb_days.proofs.Months.{month_start-rises, month_start-order, month_of-began, month_of-not_over}
use Rattle.kb_days.proofs.Months.{month_of-only, month_start-month_of, lt-month_start, mark-began}
use Rattle.kb_days.proofs.Months.{mark-not_over, mark-day_of_month, day_of_month-low, day_of_month-high}

-- the first month that has a day which may follow
may_1997 : month_start 328 ≡ 9982
unfolding month_start month_length
may_1997 = refl

-- the first month all of whose days may follow
june_1997 : month_start 329 ≡ 10013
unfolding month_start month_length
june_1997 = refl

-- the last month that has a day which may follow
february_2104 : month_start 1609 ≡ 48973
unfolding month_start month_length
february_2104 = refl

-- and the one after it
march_2104 : month_start 1610 ≡ 49002
unfolding month_start month_length
march_2104 = refl

-- each day that may follow lies in or after May 1997
pub month_of-first_reach : (d : ℕ) → first_reach ≤ d → 328 ≤ month_of d
month_of-first_reach d h =
    let order = month_start-order 328 (month_of d + 1) (omega (arith, may_1997, month_of-not_over d)) in
    omega (arith, order)

-- and in or before February 2104
pub month_of-last_reach : (d : ℕ) → d ≤ last_reach → month_of d ≤ 1609
month_of-last_reach d h =
    let order = month_start-order (month_of d) 1610 (omega (arith, march_2104, month_of-began d)) in
    omega (arith, order)

-- a day that is marked in or after June 1997 may follow
pub mark-first_reach : (m b : ℕ) → 329 ≤ m → first_reach ≤ mark m b
mark-first_reach m b h = omega (arith, june_1997, month_start-rises 329 m h, mark-began m b)

-- and so may one that is marked in or before January 2104
pub mark-last_reach : (m b : ℕ) → m ≤ 1608 → mark m b ≤ last_reach
mark-last_reach m b h =
    let later : m + 1 ≤ 1609 = omega arith in
    omega (arith, february_2104, month_start-rises (m + 1) 1609 later, mark-not_over m b)

-- no day after February 2104 may follow
pub mark-past : (m b : ℕ) → 1610 ≤ m → last_reach < mark m b
mark-past m b h = omega (arith, march_2104, month_start-rises 1610 m h, mark-began m b)

-- the month of a day and the day's number there
pub ruleset months_of_days = (
  month_start-month_of,
  lt-month_start,
  month_of-only,
  month_of-first_reach,
  month_of-last_reach,
  mark-day_of_month,
  day_of_month-low,
  day_of_month-high,
)
