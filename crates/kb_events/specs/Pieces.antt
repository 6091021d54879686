-- The pieces of a subscription: the longest runs of days with one due cell, and with one fee cell.
use Rattle.std.specs.Prelude.{ℕ, List}
use Rattle.kb_base.specs.Runs.{Stretch, runs}
use Rattle.kb_days.specs.Calendar.{first_day, charged_days}
use Rattle.kb_due.specs.declared.cell.Cell.{Cell}
use Rattle.kb_due.specs.CellStretches.{same_cell}
use Rattle.kb_due.specs.Facts.{FactsValue}
use Rattle.kb_due.specs.DueDays.{due_on, fee_on}

-- the pieces of the subscription at a place, at a billed date
unfoldable pub pieces : FactsValue → ℕ → ℕ → List (Stretch Cell)
pieces facts sub billed = runs same_cell (due_on facts sub billed) first_day charged_days

-- and its fees
unfoldable pub fees : FactsValue → ℕ → ℕ → List (Stretch Cell)
fees facts sub billed = runs same_cell (fee_on facts sub billed) first_day charged_days
