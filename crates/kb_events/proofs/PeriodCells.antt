-- The cells of the days of one period, and of those behind it.
use Rattle.std.proofs.Common.{◌≡◌, ℕ, ◌+◌, ◌<◌, ◌≤◌, Bool, true, false, nat_le, Option, Some, None, refl, sym}
use Rattle.std.proofs.Common.{◌∙◌, arith}
use Rattle.std.proofs.lemmas.Bool.{lt-leb}
use Rattle.kb_catalog.specs.Plans.{is_no_period, price_in}
use Rattle.kb_align.specs.Boundaries.{IsPeriodOf}
use Rattle.kb_align.specs.PeriodDays.{max_period_days, period_on}
use Rattle.kb_timeline.specs.declared.subscription.Subscription.{Subscription}
use Rattle.kb_due.specs.declared.cell.Cell.{Cell}
use Rattle.kb_due.specs.Facts.{FactsValue}
use Rattle.kb_due.specs.Governing.{Governing}
use Rattle.kb_due.specs.CycleDays.{cycle_day}
use Rattle.kb_due.specs.Cells.{cell_by}
use Rattle.kb_events.specs.Private.BegunCells.{begun_cell}
use Rattle.kb_events.proofs.SteadyPeriods.{period_on-steady, period_on-begins}

module _ (facts : FactsValue) (subscription : Subscription) (governing : Governing) where
  abbrev period_of_day : ℕ → ℕ × ℕ
  period_of_day day = period_on governing.start governing.phase.period
      (cycle_day facts subscription governing) day

  -- two days of one period have one cell
  cell_by-same : (day other : ℕ) → period_of_day day ≡ period_of_day other
      → cell_by facts subscription day governing ≡ cell_by facts subscription other governing
  cell_by-same day other same = rw same refl

  -- a day of the period of a cell has that cell
  pub cell_by-within : (day other : ℕ) (cell : Cell) → cell_by facts subscription day governing ≡ Some cell
      → IsPeriodOf governing.start governing.phase.period (cycle_day facts subscription governing) day
      cell.start cell.end
      → cell.end ≤ cell.start + max_period_days → cell.start ≤ other → other < cell.end
      → cell_by facts subscription other governing ≡ Some cell
  cell_by-within day other cell is period short began over =
      let here = period_on-steady governing.start governing.phase.period
      (cycle_day facts subscription governing) day cell.start cell.end day period short period.begun
      period.over in
      let there = period_on-steady governing.start governing.phase.period
      (cycle_day facts subscription governing) day cell.start cell.end other period short began over in
      cell_by-same other day (there ∙ sym here) ∙ is

  -- where one day has no cell none has
  pub cell_by-none : (day other : ℕ) → cell_by facts subscription day governing ≡ None
      → cell_by facts subscription other governing ≡ None
  cell_by-none day other none = by_period (is_no_period governing.phase.period) refl
      (price_in facts.currency governing.phase.recurring) refl
    where
      by_period : (free : Bool) → is_no_period governing.phase.period ≡ free → (price : Option ℕ)
          → price_in facts.currency governing.phase.recurring ≡ price
          → cell_by facts subscription other governing ≡ None
      by_period true is price e = rw is refl
      by_period false is None e = rw (is, e) refl
      by_period false is (Some price) e = let found = rw (is, e) at none in absurd (cc)

  -- behind a period that begins after the billed date none has begun
  pub begun_cell-later : (billed day other : ℕ) (cell : Cell)
      → IsPeriodOf governing.start governing.phase.period (cycle_day facts subscription governing) day
      cell.start cell.end
      → billed < cell.start → day ≤ other → begun_cell facts subscription governing billed other ≡ None
  begun_cell-later billed day other cell period late after =
      let begins = period_on-begins governing.start governing.phase.period
      (cycle_day facts subscription governing) cell.start other period.from_such
      (omega (arith, period.begun)) in
      by_period (is_no_period governing.phase.period) refl (price_in facts.currency governing.phase.recurring)
      refl (lt-leb (period_of_day other).0 billed (omega (arith, begins, late)))
    where
      by_period : (free : Bool) → is_no_period governing.phase.period ≡ free → (price : Option ℕ)
          → price_in facts.currency governing.phase.recurring ≡ price
          → nat_le (period_of_day other).0 billed ≡ false
          → begun_cell facts subscription governing billed other ≡ None
      by_period true is price e late_start = rw is refl
      by_period false is None e late_start = rw (is, e) refl
      by_period false is (Some price) e late_start = rw (is, e, late_start) refl
