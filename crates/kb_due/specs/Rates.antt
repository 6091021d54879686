-- What the days that one phase governs are charged by.
use Rattle.std.specs.Prelude.{ℕ, ◌≡◌}
use Rattle.kb_days.specs.declared.period.Period.TheVariants.{NoBillingPeriod}
use Rattle.kb_align.specs.PeriodDays.{period_on}
use Rattle.kb_timeline.specs.declared.subscription.Subscription.{Subscription}
use Rattle.kb_due.specs.declared.cell.Cell.{Cell}
use Rattle.kb_due.specs.declared.rate.Rate.{Rate}
use Rattle.kb_due.specs.Facts.{FactsValue}
use Rattle.kb_due.specs.Governing.{Governing}
use Rattle.kb_due.specs.CycleDays.{cycle_day}

-- the cell of a day by a rate
abbrev pub rate_cell : Rate → ℕ → Cell
rate_cell rate day = record {
  plan = rate.plan;
  phase = rate.phase;
  start = (period_on rate.start rate.period rate.bcd day).0;
  end = (period_on rate.start rate.period rate.bcd day).1;
  price = rate.price;
}

-- a rate counts its periods as those of what governs are counted
pub record IsRateOf (facts : FactsValue) (subscription : Subscription) (governing : Governing)
    (rate : Rate) : Type 0
  where
    pub start : rate.start ≡ governing.start
    pub period : rate.period ≡ governing.phase.period
    pub bcd : rate.bcd ≡ cycle_day facts subscription governing
    pub billed : rate.period ≡ NoBillingPeriod → ⊥
