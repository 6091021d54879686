-- All days of a billing period have that period, and later days none that begins before it.
use Rattle.std.proofs.Common.{◌≡◌, ℕ, ◌+◌, ◌<◌, ◌≤◌, inl, inr, arith}
use Rattle.std.proofs.lemmas.Bool.{cases_lt}
use Rattle.kb_days.specs.declared.period.Period.{Period}
use Rattle.kb_align.specs.Between.{IsBetween}
use Rattle.kb_align.specs.Boundaries.{IsBoundary, IsPeriodOf}
use Rattle.kb_align.specs.PeriodDays.{max_period_days, is_boundary, period_on}
use Rattle.kb_align.proofs.BoundaryDays.{is_boundary-true, period_on-IsPeriodOf}
use Rattle.kb_events.proofs.SteadyEvents.{last_day_on-begins}

-- every day between two neighbouring days of some kind lies between them as one of them does
pub IsBetween-within : (IsSuch : ℕ → Type 0) (day from to other : ℕ) → IsBetween IsSuch day from to
    → from ≤ other → other < to → IsBetween IsSuch other from to
IsBetween-within IsSuch day from to other is begins ends = record {
  from_such = is.from_such;
  to_such = is.to_such;
  begun = begins;
  over = ends;
  greatest = λ such is_such up_to.
      elim (cases_lt day such) [
        | inl later ↦ let high = is.least such is_such later in absurd (omega (arith, high, up_to, ends))
        | inr on ↦ is.greatest such is_such on
      ];
  least = λ such is_such after.
      elim (cases_lt day such) [
        | inl later ↦ is.least such is_such later
        | inr on ↦ let low = is.greatest such is_such on in absurd (omega (arith, low, after, begins))
      ];
}

-- the search finds the same period on all its days
pub period_on-steady : (start : ℕ) (period : Period) (bcd day from to other : ℕ)
    → IsPeriodOf start period bcd day from to → to ≤ from + max_period_days
    → from ≤ other → other < to → period_on start period bcd other ≡ (from, to)
period_on-steady start period bcd day from to other is short begins ends =
    period_on-IsPeriodOf start period bcd other from to
    (IsBetween-within (IsBoundary start period bcd) day from to other is begins ends) short

-- the period of a day begins no earlier than a boundary on or before the day
pub period_on-begins : (start : ℕ) (period : Period) (bcd from e : ℕ) → IsBoundary start period bcd from
    → from ≤ e → from ≤ (period_on start period bcd e).0
unfolding period_on
period_on-begins start period bcd from e bound begun =
    last_day_on-begins (is_boundary start period bcd) from e (is_boundary-true start period bcd from bound)
    begun
