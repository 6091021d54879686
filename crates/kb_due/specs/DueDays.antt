-- When the cell of a day is due, and what is charged once.
use Rattle.std.specs.Prelude.{ℕ, zero, suc, ◌+◌, Bool, ◌&&◌, ◌||◌, nat_eq, nat_le, Option, Some, None}
use Rattle.std.specs.Prelude.{is_some, option_map, option_and_then, if◌then◌else◌}
use Rattle.kb_days.specs.Calendar.{last_charged}
use Rattle.kb_catalog.specs.Plans.{price_in}
use Rattle.kb_align.specs.PeriodDays.{last_day_on}
use Rattle.kb_timeline.specs.declared.subscription.Subscription.{Subscription}
use Rattle.kb_blocking.specs.declared.state.Flag.TheVariants.{Billing}
use Rattle.kb_blocking.specs.Blocking.{turns}
use Rattle.kb_due.specs.declared.cell.Cell.{Cell}
use Rattle.kb_due.specs.Facts.{FactsValue, subscription_at, chain_of}
use Rattle.kb_due.specs.Governing.{Governing, governing_on}
use Rattle.kb_due.specs.Life.{is_live_of}
use Rattle.kb_due.specs.Cells.{cell_of, cell_on}

-- a day of what may change a cell: the entry that governs, the start of the phase that governs, a turn of the
-- billing flag
abbrev pub is_event : FactsValue → Subscription → ℕ → Governing → ℕ → Bool
is_event facts subscription sub governing day =
    nat_eq governing.entry.day day || nat_eq governing.start day
    || turns facts.blocks (chain_of subscription sub) Billing day

-- the last such day on or before a day
abbrev pub event_by : FactsValue → Subscription → ℕ → Governing → ℕ → ℕ
event_by facts subscription sub governing day = last_day_on (is_event facts subscription sub governing) day

-- a cell is due at a billed date where both its period and that event had begun by then
abbrev pub due_by : ℕ → ℕ → Cell → Option Cell
due_by billed event cell = if nat_le cell.start billed && nat_le event billed then Some cell else None

abbrev pub due_of : FactsValue → Subscription → ℕ → ℕ → ℕ → Option Cell
due_of facts subscription sub billed day =
    option_and_then at (governing_on facts.catalog subscription.entries day)
  where
    at : Governing → Option Cell
    at governing =
        option_and_then (due_by billed (event_by facts subscription sub governing day))
        (cell_on facts subscription sub day)

-- the due cell of a day at a billed date, of the subscription at a place
unfoldable pub due_on : FactsValue → ℕ → ℕ → ℕ → Option Cell
due_on facts sub billed day =
    option_and_then (λ (subscription : Subscription). due_of facts subscription sub billed day)
    (subscription_at facts sub)

-- the due cell of a day where the billed date may not be there yet: nothing is due then
abbrev pub due_at : FactsValue → ℕ → Option ℕ → ℕ → Option Cell
due_at facts sub billed day = option_and_then (λ date. due_on facts sub date day) billed

-- what is charged once by what governs a day: a cell of that day, where the phase starts on it and has a
-- fixed price
abbrev pub fee_by : FactsValue → ℕ → Governing → Option Cell
fee_by facts day governing =
    if nat_eq governing.start day
    then option_map (cell_of governing (day, day + 1)) (price_in facts.currency governing.phase.fixed)
    else None

-- what is charged once on a day of a subscription: none after the last day that may be charged, or the billed
-- date; blocking has no say
abbrev pub fee_of : FactsValue → Subscription → ℕ → ℕ → Option Cell
fee_of facts subscription billed day =
    if nat_le day last_charged && is_live_of facts subscription day && nat_le day billed
    then option_and_then (fee_by facts day) (governing_on facts.catalog subscription.entries day)
    else None

-- the fee cell of a day at a billed date, of the subscription at a place
unfoldable pub fee_on : FactsValue → ℕ → ℕ → ℕ → Option Cell
fee_on facts sub billed day =
    option_and_then (λ (subscription : Subscription). fee_of facts subscription billed day)
    (subscription_at facts sub)

-- the fee cell of a day where the billed date may not be there yet: there is none then
abbrev pub fee_at : FactsValue → ℕ → Option ℕ → ℕ → Option Cell
fee_at facts sub billed day = option_and_then (λ date. fee_on facts sub date day) billed

-- the day after the last one, up to a day, with a due cell
unfoldable pub charged_until : ℕ → FactsValue → ℕ → ℕ → Option ℕ
charged_until last facts sub billed =
    of_last (last_day_on (λ day. is_some (due_on facts sub billed day)) last)
  where
    of_last : ℕ → Option ℕ
    of_last zero = None
    of_last (suc before) = Some (suc (suc before))

-- the day until which a subscription is charged: the one after its last day with a due cell
abbrev pub charged_through : FactsValue → ℕ → ℕ → Option ℕ
charged_through facts sub billed = charged_until last_charged facts sub billed
