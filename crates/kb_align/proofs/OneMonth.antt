-- The period of one month around a day: each month's cycle day is a boundary.
use Rattle.std.proofs.Common.{◌≡◌, ℕ, ◌+◌, ◌-◌, ◌<◌, ◌≤◌, sym, subst, ◌∙◌, arith}
use Rattle.std.proofs.Math.Nat.{mod-one}
use Rattle.kb_days.specs.Calendar.{mark, month_of}
use Rattle.kb_align.specs.Between.{IsBetween}
use Rattle.kb_align.specs.Boundaries.{IsFirstMonth, IsMonthBoundary}
use Rattle.kb_align.specs.PeriodDays.{first_month}
use Rattle.kb_align.proofs.BoundaryDays.{IsFirstMonth-first_month}
use Rattle.kb_align.proofs.FirstMonths.{IsFirstMonth-soon, IsFirstMonth-later}
use Rattle.kb_align.proofs.Neighbours.{month_boundaries}

-- from the last month whose cycle day lies on or before the day to the next one
from_last : (start bcd day last : ℕ) → IsFirstMonth (day + 1) bcd (last + 1)
    → IsBetween (IsMonthBoundary 1 start bcd) day (mark last bcd) (mark (last + 1) bcd)
from_last start bcd day last next =
    month_boundaries 1 start bcd day (first_month start bcd) last last (omega arith)
    (IsFirstMonth-first_month start bcd) next (mod-one last ∙ sym (mod-one (first_month start bcd)))
    (omega arith) (omega arith)

-- up to the cycle day of the day's month, where that lies behind the day
pub period-before : (start bcd day month : ℕ) → 1 ≤ month → month ≡ month_of day
    → day < mark (month_of day) bcd
    → IsBetween (IsMonthBoundary 1 start bcd) day (mark (month - 1) bcd) (mark month bcd)
period-before start bcd day month some is before =
    let here : month - 1 + 1 ≡ month = omega (arith, some) in
    subst (λ m. IsBetween (IsMonthBoundary 1 start bcd) day (mark (month - 1) bcd) (mark m bcd)) here
    (from_last start bcd day (month - 1) (IsFirstMonth-soon day bcd (month - 1 + 1) (here ∙ is) before))

-- and from it on, where it doesn't
pub period-after : (start bcd day month : ℕ) → month ≡ month_of day → mark (month_of day) bcd ≤ day
    → IsBetween (IsMonthBoundary 1 start bcd) day (mark month bcd) (mark (month + 1) bcd)
period-after start bcd day month is after =
    from_last start bcd day month (IsFirstMonth-later day bcd (month + 1) (omega (arith, is)) after)
