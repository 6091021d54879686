-- The boundaries of billing periods, and the period of a day.
use Rattle.std.specs.Prelude.{ℕ, ◌+◌, ◌*◌, ◌%◌, ◌≡◌, ◌≤◌, ◌<◌, ◌⊎◌, Some}
use Rattle.kb_days.specs.Calendar.{mark}
use Rattle.kb_days.specs.Periods.{period_days, period_months}
use Rattle.kb_days.specs.declared.period.Period.{Period}
use Rattle.kb_align.specs.Between.{IsBetween}

-- the first month whose day of this number lies on or after a start
pub record IsFirstMonth (start bcd month : ℕ) : Type 0 where
  pub reached : start ≤ mark month bcd
  pub earlier : (other : ℕ) → other < month → mark other bcd < start

-- a boundary of a period of so many days: the start of the phase, or a multiple of the period after it
abbrev pub IsDayBoundary : ℕ → ℕ → ℕ → Type 0
IsDayBoundary count start day = (times : ℕ) × (day ≡ start + times * count)

-- a boundary of a period of so many months: the cycle day of a month that lies whole periods before or after
-- the first one whose cycle day is on or after the start of the phase
abbrev pub IsMonthBoundary : ℕ → ℕ → ℕ → ℕ → Type 0
IsMonthBoundary count start bcd day =
    (first : ℕ) × (month : ℕ) × IsFirstMonth start bcd first × (month % count ≡ first % count)
    × (day ≡ mark month bcd)

-- a boundary of the periods of a phase that starts on a day, billed by a cycle day
abbrev pub IsBoundary : ℕ → Period → ℕ → ℕ → Type 0
IsBoundary start period bcd day =
    ((count : ℕ) × (period_days period ≡ Some count) × IsDayBoundary count start day)
    ⊎ ((count : ℕ) × (period_months period ≡ Some count) × IsMonthBoundary count start bcd day)

-- the period of a day: from the greatest boundary on or before the day to the least one after it
abbrev pub IsPeriodOf : ℕ → Period → ℕ → ℕ → ℕ → ℕ → Type 0
IsPeriodOf start period bcd day from to = IsBetween (IsBoundary start period bcd) day from to
