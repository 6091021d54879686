-- The day that comes some months after another lies after it.
use Rattle.std.proofs.Common.{◌≡◌, ℕ, ◌+◌, ◌<◌, ◌≤◌, None, arith}
use Rattle.kb_days.specs.Calendar.{last_reach, month_of, day_of_month}
use Rattle.kb_days.specs.Adding.{add_months, reached}
use Rattle.kb_days.proofs.Months.{month_start-rises, month_of-not_over, mark-began}

-- a day that is some months after another comes after it
pub add_months-later : (d n : ℕ) → 1 ≤ n → d < add_months d n
add_months-later d n h =
    omega (
      arith,
      month_of-not_over d,
      month_start-rises (month_of d + 1) (month_of d + n)
          (omega arith),
      mark-began (month_of d + n) (day_of_month d),
    )

-- no day after the last one is reached
pub reached-past : (d : ℕ) → last_reach < d → reached d ≡ None
reached-past d h = grind arith
