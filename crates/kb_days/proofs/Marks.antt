-- Days that are marked by one number rise month by month.
use Rattle.std.proofs.Common.{◌≡◌, ℕ, ◌+◌, ◌<◌, ◌≤◌, inl, inr, refl, arith}
use Rattle.std.proofs.lemmas.Bool.{cases_lt}
use Rattle.kb_days.specs.Calendar.{first_day, last_charged, end_of_days, month_start, month_length, mark}
use Rattle.kb_days.specs.Calendar.{month_of}
use Rattle.kb_days.proofs.Months.{month_start-rises, month_start-order, month_of-began, month_of-not_over}
use Rattle.kb_days.proofs.Months.{mark-began, mark-not_over}

january_2000 : month_start 360 ≡ 10957
unfolding month_start month_length
january_2000 = refl

february_2102 : month_start 1585 ≡ end_of_days
unfolding month_start month_length
february_2102 = refl

-- the days that a command may name lie in or after January 2000
pub month_of-first_day : (day : ℕ) → first_day ≤ day → 360 ≤ month_of day
month_of-first_day day h =
    let order = month_start-order 360 (month_of day + 1)
    (omega (arith, january_2000, month_of-not_over day)) in
    omega (arith, order)

-- the days that may be charged lie in or before January 2102
pub month_of-last_charged : (day : ℕ) → day ≤ last_charged → month_of day ≤ 1584
month_of-last_charged day h =
    let order = month_start-order (month_of day) 1585 (omega (arith, february_2102, month_of-began day)) in
    omega (arith, order)

-- a later month is marked on a later day
pub mark-rises : (m n bcd : ℕ) → m < n → mark m bcd < mark n bcd
mark-rises m n bcd h =
    omega (arith, mark-not_over m bcd, month_start-rises (m + 1) n (omega arith), mark-began n bcd)

-- and no earlier month on one
pub mark-order : (m n bcd : ℕ) → m ≤ n → mark m bcd ≤ mark n bcd
mark-order m n bcd h =
    elim (cases_lt m n) [
      | inl before ↦ let rises = mark-rises m n bcd before in omega (arith, rises)
      | inr after ↦ let same : m ≡ n = omega arith in rw same (omega arith)
    ]

-- a month before a day's is marked before the day
pub mark-before : (m day bcd : ℕ) → m < month_of day → mark m bcd < day
mark-before m day bcd h =
    omega (
      arith,
      mark-not_over m bcd,
      month_start-rises (m + 1) (month_of day)
          (omega arith),
      month_of-began day,
    )

-- the month after a day's is marked after the day
pub mark-after : (day bcd : ℕ) → day < mark (month_of day + 1) bcd
mark-after day bcd = omega (arith, month_of-not_over day, mark-began (month_of day + 1) bcd)
