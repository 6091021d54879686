-- Cells whose periods have begun by the billed date.
use Rattle.std.specs.Prelude.{ℕ, nat_le, Option, Some, None, option_and_then, if◌then◌else◌}
use Rattle.kb_timeline.specs.declared.subscription.Subscription.{Subscription}
use Rattle.kb_due.specs.declared.cell.Cell.{Cell}
use Rattle.kb_due.specs.Facts.{FactsValue}
use Rattle.kb_due.specs.Governing.{Governing}
use Rattle.kb_due.specs.Cells.{cell_by}

-- a cell, if its period has begun by the billed date
abbrev pub begun_by : ℕ → Cell → Option Cell
begun_by billed cell = if nat_le cell.start billed then Some cell else None

-- the cell of a day by what governs it, if its period has begun by the billed date
abbrev pub begun_cell : FactsValue → Subscription → Governing → ℕ → ℕ → Option Cell
begun_cell facts subscription governing billed day =
    option_and_then (begun_by billed) (cell_by facts subscription day governing)
