-- The months and days counted here are those of the civil calendar.
use Rattle.std.proofs.Common.{◌≡◌, ℕ, zero, suc, ◌+◌, ◌-◌, ◌*◌, ◌/◌, ◌%◌, ◌<◌, ◌≤◌, inl, inr, min, sym, subst}
use Rattle.std.proofs.Common.{arith, ℤ, pos, negsuc, ◌<ℤ◌, ◌≤ℤ◌, unsigned_abs}
use Rattle.std.proofs.lemmas.Bool.{cases_lt}
use Rattle.jiff_core.specs.Calendar.{days_in_month, day_count, days_from_civil, IsCivilDate}
use Rattle.jiff_core.proofs.SignedLemmas.{signed_arith, one_part}
use Rattle.jiff_core.proofs.CalendarLemmas.{days_from_civil-day_count, day_count-epoch, day_count-next_month}
use Rattle.jiff_core.proofs.CalendarLemmas.{day_count-next_year, day_count-last_of_year, day_count-day}
use Rattle.jiff_core.proofs.CalendarLemmas.{day_count-lt_year}
use Rattle.kb_days.specs.Calendar.{month_length, month_start, mark, month_of, day_of_month}
use Rattle.kb_days.proofs.Months.{month_length-low, month_start-suc, month_of-only, day_of_month-low}
use Rattle.kb_days.proofs.Months.{day_of_month-high, day_of_month-start}

-- January comes after the 31 days of December
day_count-new_year : (year : ℕ)
    → day_count (pos (year + 1)) 1 1 ≡ day_count (pos year) 12 1 + days_in_month (pos year) 12
day_count-new_year year =
    omega (
      arith,
      signed_arith,
      day_count-next_year (pos year) (pos (year + 1)) (omega (arith, signed_arith))
          (omega (arith, signed_arith)),
      day_count-last_of_year (pos year),
      day_count-day (pos year) 12 1 31
          (omega arith) (omega arith),
    )

-- the first of the next month in the civil calendar comes after the days of this one
day_count-next : (m : ℕ) → day_count (pos (1970 + (m + 1) / 12)) ((m + 1) % 12 + 1) 1 ≡ day_count
    (pos (1970 + m / 12)) (m % 12 + 1) 1 + month_length m
unfolding month_length
day_count-next m =
    elim (cases_lt (m % 12) 11) [
      | inl within ↦
          let year : (m + 1) / 12 ≡ m / 12 = omega arith in
          let month : (m + 1) % 12 ≡ m % 12 + 1 = omega arith in
          rw (year, month) (day_count-next_month (pos (1970 + m / 12)) (m % 12 + 1) (omega arith))
      | inr last ↦
          let year : 1970 + (m + 1) / 12 ≡ 1970 + m / 12 + 1 = omega arith in
          let january : (m + 1) % 12 ≡ 0 = omega arith in
          let december : m % 12 ≡ 11 = omega arith in
          rw (year, january, december) (day_count-new_year (1970 + m / 12))
    ]

-- a month starts on its first day in the civil calendar
pub month_start-day_count : (m : ℕ)
    → month_start m + 4_371_953 ≡ day_count (pos (1970 + m / 12)) (m % 12 + 1) 1
unfolding month_start
month_start-day_count zero = sym day_count-epoch
month_start-day_count (suc m) =
    let next : suc m ≡ m + 1 = omega arith in
    rw next (omega (arith, day_count-next m, month_start-day_count m))

-- the day number of a civil date counts on from the start of its month
pub days_from_civil-month : (m d : ℕ) → 1 ≤ d
    → days_from_civil (pos (1970 + m / 12)) (m % 12 + 1) d ≡ pos (month_start m + (d - 1))
days_from_civil-month m d h =
    omega (
      arith,
      signed_arith,
      days_from_civil-day_count (pos (1970 + m / 12)) (m % 12 + 1) d,
      day_count-day
          (pos (1970 + m / 12)) (m % 12 + 1) 1 d (omega arith) h,
      month_start-day_count m,
    )

-- the start of a month is the day number of its first day
pub month_start-civil : (m : ℕ) → days_from_civil (pos (1970 + m / 12)) (m % 12 + 1) 1 ≡ pos (month_start m)
month_start-civil m = omega (arith, signed_arith, days_from_civil-month m 1 (omega arith))

-- a year before 1970 or not: what rules out the first leaves the second
since_1970 : (y : ℤ) → (y <ℤ pos 1970 → pos 1970 ≤ℤ y) → pos 1970 ≤ℤ y
since_1970 (pos n) h =
    elim (cases_lt n 1970)
    [ inl early ↦ h (omega (arith, signed_arith)) | inr late ↦ omega (arith, signed_arith) ]
since_1970 (negsuc n) h = h (omega (arith, signed_arith))

-- a civil date with a day number lies in or after 1970
civil-since_1970 : (y : ℤ) (m d day : ℕ) → IsCivilDate y m d → days_from_civil y m d ≡ pos day → pos 1970 ≤ℤ y
civil-since_1970 y m d day civil e =
    let late : y <ℤ pos 1970 → day_count y m d < day_count (pos 1970) 1 1 = day_count-lt_year y m d (pos 1970)
    1 1 civil (omega arith) in
    since_1970 y (λ early. absurd
    (omega (arith, signed_arith, days_from_civil-day_count y m d, day_count-epoch, late early)))

-- a date is that of a month which is counted from January 1970
civil-in_month : (y : ℤ) (m d day month : ℕ) → y ≡ pos (1970 + month / 12) → m ≡ month % 12 + 1
    → IsCivilDate y m d → days_from_civil y m d ≡ pos day → (month_of day ≡ month) × (day_of_month day ≡ d)
unfolding day_of_month month_length
civil-in_month y m d day month year_is month_is civil e =
    let high : d ≤ days_in_month (pos (1970 + month / 12))
    (month % 12 + 1) = rw (year_is, month_is) at civil.2.1 in
    let number = rw (year_is, month_is) at e in
    let place : day ≡ month_start month + (d - 1) = omega
    (arith, signed_arith, number, days_from_civil-month month d civil.2.0) in
    let here = month_of-only day month (omega arith) (omega (arith, month_start-suc month)) in
    (here, rw here (omega (arith, civil.2.0)))

-- the month and the day of month of a civil date's day are those of the date
civil_parts : (y : ℤ) (m d day : ℕ) → IsCivilDate y m d → days_from_civil y m d ≡ pos day
    → (y ≡ pos (1970 + month_of day / 12)) × (m ≡ month_of day % 12 + 1) × (d ≡ day_of_month day)
civil_parts y m d day civil e =
    let since = civil-since_1970 y m d day civil e in
    let month : ℕ = 12 * (unsigned_abs y - 1970) + (m - 1) in
    let year_is : y ≡ pos (1970 + month / 12) = omega (arith, signed_arith, one_part y, civil.1) in
    let month_is : m ≡ month % 12 + 1 = omega (arith, civil) in
    let holds = civil-in_month y m d day month year_is month_is civil e in
    (rw holds.0 year_is, rw holds.0 month_is, sym holds.1)

-- a date's year is that of its day's month
pub year-civil : (y : ℤ) (m d day : ℕ) → IsCivilDate y m d → days_from_civil y m d ≡ pos day
    → y ≡ pos (1970 + month_of day / 12)
year-civil y m d day civil e = (civil_parts y m d day civil e).0

-- a date's month is that of its day, counted from 1 in its year
pub month-civil : (y : ℤ) (m d day : ℕ) → IsCivilDate y m d → days_from_civil y m d ≡ pos day
    → m ≡ month_of day % 12 + 1
month-civil y m d day civil e = (civil_parts y m d day civil e).1

-- a date's day is its day's number in the month
pub day_of_month-civil : (y : ℤ) (m d day : ℕ) → IsCivilDate y m d → days_from_civil y m d ≡ pos day
    → d ≡ day_of_month day
day_of_month-civil y m d day civil e = (civil_parts y m d day civil e).2

-- each day has a civil date
pub days_from_civil-day_of_month : (day : ℕ)
    → days_from_civil (pos (1970 + month_of day / 12)) (month_of day % 12 + 1) (day_of_month day) ≡ pos day
days_from_civil-day_of_month day =
    omega (
      arith,
      signed_arith,
      days_from_civil-month (month_of day) (day_of_month day)
          (day_of_month-low day),
      day_of_month-start day,
      day_of_month-low day,
    )

-- and the calendar has that date
pub civil-day_of_month : (day : ℕ) → 1970 + month_of day / 12 < 10000
    → IsCivilDate (pos (1970 + month_of day / 12)) (month_of day % 12 + 1) (day_of_month day)
unfolding month_length
civil-day_of_month day h = (
  (
    omega (arith, signed_arith),
    omega
        (arith, signed_arith),
  ),
  (omega arith, omega arith),
  (day_of_month-low day, day_of_month-high day),
)

-- a date has the day that a number marks in its month, where its own day is that number or the month's last
pub days_from_civil-mark : (y : ℤ) (m d month number : ℕ) → y ≡ pos (1970 + month / 12) → m ≡ month % 12 + 1
    → d ≡ min number (days_in_month y m) → 1 ≤ number → days_from_civil y m d ≡ pos (mark month number)
unfolding month_length
days_from_civil-mark y m d month number year_is month_is day_is h =
    let low : 1 ≤ min number (month_length month) = omega (arith, month_length-low month) in
    rw (day_is, year_is, month_is) (days_from_civil-month month (min number (month_length month)) low)

-- the calendar has a date whose parts are those of one that it has
pub IsCivilDate-same : (y : ℤ) (m d : ℕ) (y₂ : ℤ) (m₂ d₂ : ℕ) → y ≡ y₂ → m ≡ m₂ → d ≡ d₂ → IsCivilDate y m d
    → IsCivilDate y₂ m₂ d₂
IsCivilDate-same y m d y₂ m₂ d₂ year month day h =
    subst (λ z. IsCivilDate z m₂ d₂) year
    (subst (λ n. IsCivilDate y n d₂) month (subst (λ n. IsCivilDate y m n) day h))
