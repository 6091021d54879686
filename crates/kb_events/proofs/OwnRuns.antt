-- The pieces and fees of the subscription at a place are its own.
use Rattle.std.proofs.Common.{◌≡◌, ℕ, ◌<◌, ◌≤◌, List, Option, Some, None, All, ap, option_and_then, arith}
use Rattle.kb_base.specs.Runs.{Stretch, runs, AreRuns}
use Rattle.kb_base.proofs.Tiled.{runs-are-to}
use Rattle.kb_days.specs.Calendar.{first_day, charged_days, end_of_days}
use Rattle.kb_timeline.specs.declared.entry.Entry.{Entry}
use Rattle.kb_timeline.specs.declared.subscription.Subscription.{Subscription}
use Rattle.kb_due.specs.declared.cell.Cell.{Cell}
use Rattle.kb_due.specs.Facts.{FactsValue, subscription_at}
use Rattle.kb_due.specs.DueDays.{due_of, due_on, fee_of, fee_on}
use Rattle.kb_due.specs.CellStretches.{same_cell}
use Rattle.kb_events.specs.Pieces.{pieces, fees}
use Rattle.kb_due.proofs.SameCells.{same_cell-same}
use Rattle.kb_events.proofs.NamedDays.{due_of-early, fee_of-early}

pub pieces-own : (facts : FactsValue) (sub billed : ℕ) (subscription : Subscription)
    → subscription_at facts sub ≡ Some subscription
    → pieces facts sub billed ≡ runs same_cell (due_of facts subscription sub billed) first_day charged_days
unfolding pieces due_on
pieces-own facts sub billed subscription is =
    ap (λ (found : Option Subscription). runs same_cell
    (λ day. option_and_then (λ (own : Subscription). due_of facts own sub billed day) found) first_day
    charged_days) is

pub fees-own : (facts : FactsValue) (sub billed : ℕ) (subscription : Subscription)
    → subscription_at facts sub ≡ Some subscription
    → fees facts sub billed ≡ runs same_cell (fee_of facts subscription billed) first_day charged_days
unfolding fees fee_on
fees-own facts sub billed subscription is =
    ap (λ (found : Option Subscription). runs same_cell
    (λ day. option_and_then (λ (own : Subscription). fee_of facts own billed day) found) first_day
    charged_days) is

-- the pieces are the longest runs of the due cells over the days that may be charged
pub pieces-longest : (facts : FactsValue) (sub billed : ℕ) (stretches : List (Stretch Cell))
    → stretches ≡ pieces facts sub billed
    → AreRuns same_cell (due_on facts sub billed) first_day end_of_days stretches
unfolding pieces
pieces-longest facts sub billed stretches are =
    rw are (runs-are-to same_cell (due_on facts sub billed) same_cell-same first_day charged_days end_of_days
    (omega arith))

-- and the fees those of the fee cells
pub fees-longest : (facts : FactsValue) (sub billed : ℕ) (stretches : List (Stretch Cell))
    → stretches ≡ fees facts sub billed
    → AreRuns same_cell (fee_on facts sub billed) first_day end_of_days stretches
unfolding fees
fees-longest facts sub billed stretches are =
    rw are (runs-are-to same_cell (fee_on facts sub billed) same_cell-same first_day charged_days end_of_days
    (omega arith))

-- before the days that commands name nothing is due
pub due_on-early : (facts : FactsValue) (sub billed : ℕ) (subscription : Subscription)
    → subscription_at facts sub ≡ Some subscription
    → All (λ (entry : Entry). first_day ≤ entry.day) subscription.entries
    → (day : ℕ) → day < first_day → due_on facts sub billed day ≡ None
unfolding due_on
due_on-early facts sub billed subscription is named day early =
    rw is (due_of-early facts subscription sub billed day early named)

-- and nothing is charged once
pub fee_on-early : (facts : FactsValue) (sub billed : ℕ) (subscription : Subscription)
    → subscription_at facts sub ≡ Some subscription
    → All (λ (entry : Entry). first_day ≤ entry.day) subscription.entries
    → (day : ℕ) → day < first_day → fee_on facts sub billed day ≡ None
unfolding fee_on
fee_on-early facts sub billed subscription is named day early =
    rw is (fee_of-early facts subscription billed day early named)
