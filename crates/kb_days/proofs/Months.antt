-- Months follow one another without a gap, and each day lies in exactly one of them.
use Rattle.std.proofs.Common.{◌≡◌, ℕ, zero, suc, ◌+◌, ◌-◌, ◌*◌, ◌/◌, ◌%◌, ◌<◌, ◌≤◌, inl, inr, refl, arith}
use Rattle.std.proofs.Common.{add-one, pos}
use Rattle.std.proofs.lemmas.Bool.{cases_lt, lt-ltb, le-ltb}
use Rattle.jiff_core.proofs.CalendarLemmas.{days_in_month_bounds}
use Rattle.kb_days.specs.Calendar.{month_length, month_start, mark, month_after, month_of, day_of_month}

-- a month has at least 28 days
pub month_length-low : (m : ℕ) → 28 ≤ month_length m
unfolding month_length
month_length-low m = (days_in_month_bounds (pos (1970 + m / 12)) (m % 12 + 1)).1

-- a month has at most 31 days
pub month_length-high : (m : ℕ) → month_length m ≤ 31
unfolding month_length
month_length-high m = (days_in_month_bounds (pos (1970 + m / 12)) (m % 12 + 1)).0

-- the next month begins when the days of this one are over
pub month_start-suc : (m : ℕ) → month_start (m + 1) ≡ month_start m + month_length m
unfolding month_start
month_start-suc m = rw add-one refl

-- so many months later is at least 28 days later for each
month_start-add : (m k : ℕ) → month_start m + 28 * k ≤ month_start (m + k)
month_start-add m zero = let same : m + 0 ≡ m = omega arith in rw same (omega arith)
month_start-add m (suc k) =
    let next : m + suc k ≡ m + k + 1 = omega arith in
    rw next (omega (arith, month_start-add m k, month_start-suc (m + k), month_length-low (m + k)))

-- a later month begins at least 28 days later for each month between
pub month_start-apart : (m n : ℕ) → m ≤ n → month_start m + 28 * (n - m) ≤ month_start n
month_start-apart m n h =
    let there : m + (n - m) ≡ n = omega arith in
    let apart = month_start-add m (n - m) in
    omega (arith, rw there at apart)

-- a later month begins no earlier
pub month_start-rises : (m n : ℕ) → m ≤ n → month_start m ≤ month_start n
month_start-rises m n h = omega (arith, month_start-apart m n h)

-- a month that begins earlier comes earlier
pub month_start-order : (m n : ℕ) → month_start m < month_start n → m < n
month_start-order m n h =
    elim (cases_lt m n) [ inl here ↦ here | inr back ↦ absurd (omega (arith, month_start-rises n m back)) ]

-- counting stops at a month that has the day
month_after-now : (most month days : ℕ) → days < month_length month
    → month_after (suc most) month days ≡ month
unfolding month_after
month_after-now most month days h = rw (lt-ltb days (month_length month) h) refl

-- and goes on past a month that ends before it
month_after-later : (most month days : ℕ) → month_length month ≤ days
    → month_after (suc most) month days ≡ month_after most (month + 1) (days - month_length month)
unfolding month_after
month_after-later most month days h = rw (le-ltb days (month_length month) h) refl

-- and stops where no month is left to try
month_after-none : (month days : ℕ) → month_after zero month days ≡ month
unfolding month_after
month_after-none month days = refl

-- the month that is counted to has the day
month_after-holds : (most month days : ℕ) → days ≤ most
    → (month_start (month_after most month days) ≤ month_start month + days)
    × (month_start month + days < month_start (month_after most month days + 1))
month_after-holds zero month days h =
    rw (month_after-none month days)
    (omega arith, omega (arith, month_start-suc month, month_length-low month))
month_after-holds (suc most) month days h =
    elim (cases_lt days (month_length month)) [
      | inl here ↦ rw (month_after-now most month days here)
          (omega arith, omega (arith, month_start-suc month))
      | inr over ↦
          let rest : days - month_length month ≤ most = omega (arith, month_length-low month) in
          let later = month_after-holds most (month + 1) (days - month_length month) rest in
          rw (month_after-later most month days over)
          (omega (arith, later, month_start-suc month), omega (arith, later, month_start-suc month))
    ]

-- the month of a day has the day
month_of-holds : (d : ℕ) → (month_start (month_of d) ≤ d) × (d < month_start (month_of d + 1))
unfolding month_of month_start
month_of-holds d =
    let holds = month_after-holds d 0 d (omega arith) in
    (omega (arith, holds), omega (arith, holds))

-- the month of a day began no later than the day
pub month_of-began : (d : ℕ) → month_start (month_of d) ≤ d
month_of-began d = (month_of-holds d).0

-- the month of a day is not over on it
pub month_of-not_over : (d : ℕ) → d < month_start (month_of d + 1)
month_of-not_over d = (month_of-holds d).1

-- a number that is the month of a day is that of a month which began no later
pub month_start-month_of : (m d : ℕ) → m ≡ month_of d → month_start m ≤ d
month_start-month_of m d e = rw e (month_of-began d)

-- and which is not over on the day
pub lt-month_start : (m d : ℕ) → m ≡ month_of d → d < month_start (m + 1)
lt-month_start m d e = rw e (month_of-not_over d)

-- no other month has the day
pub month_of-only : (d m : ℕ) → month_start m ≤ d → d < month_start (m + 1) → month_of d ≡ m
month_of-only d m began over =
    let low = month_start-order m (month_of d + 1) (omega (arith, month_of-not_over d)) in
    let high = month_start-order (month_of d) (m + 1) (omega (arith, month_of-began d)) in
    omega (arith, low, high)

-- the first of a month is its start
pub mark-first : (m : ℕ) → mark m 1 ≡ month_start m
mark-first m = omega (arith, month_length-low m)

-- a marked day comes no earlier than its month
pub mark-began : (m b : ℕ) → month_start m ≤ mark m b
mark-began m b = omega arith

-- and lies before the next month
pub mark-not_over : (m b : ℕ) → mark m b < month_start (m + 1)
mark-not_over m b = omega (arith, month_start-suc m, month_length-low m)

-- a marked day lies in the month in which it was marked
pub month_of-mark : (m b : ℕ) → month_of (mark m b) ≡ m
month_of-mark m b = month_of-only (mark m b) m (mark-began m b) (mark-not_over m b)

-- the days of a month are numbered from 1
pub day_of_month-low : (d : ℕ) → 1 ≤ day_of_month d
unfolding day_of_month
day_of_month-low d = omega arith

-- up to its length
pub day_of_month-high : (d : ℕ) → day_of_month d ≤ month_length (month_of d)
unfolding day_of_month
day_of_month-high d = omega (arith, month_of-began d, month_of-not_over d, month_start-suc (month_of d))

-- a day is the start of its month and the days before it there
pub day_of_month-start : (d : ℕ) → month_start (month_of d) + day_of_month d ≡ d + 1
unfolding day_of_month
day_of_month-start d = omega (arith, month_of-began d)

-- a day is marked by its own month and number
pub mark-day_of_month : (d : ℕ) → mark (month_of d) (day_of_month d) ≡ d
mark-day_of_month d = omega (arith, day_of_month-low d, day_of_month-high d, day_of_month-start d)
