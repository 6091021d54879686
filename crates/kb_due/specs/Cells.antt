-- The cell of a day: what it is charged by.
use Rattle.std.specs.Prelude.{ℕ, Bool, not, ◌&&◌, nat_le, Option, None, option_map, option_and_then}
use Rattle.std.specs.Prelude.{if◌then◌else◌}
use Rattle.kb_days.specs.Calendar.{last_charged}
use Rattle.kb_catalog.specs.Plans.{is_no_period, price_in}
use Rattle.kb_align.specs.PeriodDays.{period_on}
use Rattle.kb_timeline.specs.declared.subscription.Subscription.{Subscription}
use Rattle.kb_blocking.specs.declared.state.Flag.TheVariants.{Billing}
use Rattle.kb_blocking.specs.Blocking.{is_on}
use Rattle.kb_due.specs.declared.cell.Cell.{Cell}
use Rattle.kb_due.specs.Facts.{FactsValue, chain_of}
use Rattle.kb_due.specs.Governing.{Governing, governing_on}
use Rattle.kb_due.specs.Life.{is_live_of}
use Rattle.kb_due.specs.CycleDays.{cycle_day}

-- billing is blocked for a subscription on a day
abbrev pub is_unbilled : FactsValue → Subscription → ℕ → ℕ → Bool
is_unbilled facts subscription sub day = is_on facts.blocks (chain_of subscription sub) Billing day

-- the cell of a phase and a period at a price
abbrev pub cell_of : Governing → ℕ × ℕ → ℕ → Cell
cell_of governing period price = record {
  plan = governing.entry.plan;
  phase = governing.place;
  start = period.0;
  end = period.1;
  price = price;
}

-- the cell by what governs a day: none where the phase has no billing period, or no recurring price
abbrev pub cell_by : FactsValue → Subscription → ℕ → Governing → Option Cell
cell_by facts subscription day governing =
    if is_no_period governing.phase.period then None
    else option_map (cell_of governing period) (price_in facts.currency governing.phase.recurring)
  where
    period : ℕ × ℕ
    period = period_on governing.start governing.phase.period (cycle_day facts subscription governing) day

-- the cell of a day: none after the last day that may be charged, where the subscription isn't live, or where
-- billing is blocked
unfoldable pub cell_on : FactsValue → Subscription → ℕ → ℕ → Option Cell
cell_on facts subscription sub day =
    if nat_le day last_charged && is_live_of facts subscription day
    && not (is_unbilled facts subscription sub day)
    then option_and_then (cell_by facts subscription day)
    (governing_on facts.catalog subscription.entries day)
    else None
