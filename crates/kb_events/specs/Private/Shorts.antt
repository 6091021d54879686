-- Stretches of which no cell is longer than a billing period may be.
use Rattle.std.specs.Prelude.{◌+◌, ◌≤◌, List, All}
use Rattle.kb_base.specs.Runs.{Stretch}
use Rattle.kb_due.specs.declared.cell.Cell.{Cell}
use Rattle.kb_align.specs.PeriodDays.{max_period_days}

-- a cell is no longer than that
abbrev pub IsShort : Cell → Type 0
IsShort cell = cell.end ≤ cell.start + max_period_days

-- and no cell of stretches is
abbrev pub AreShort : List (Stretch Cell) → Type 0
AreShort stretches = All (λ (stretch : Stretch Cell). IsShort stretch.value) stretches
