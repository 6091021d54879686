-- Stretches of days with one cell.
use Rattle.std.specs.Prelude.{◌+◌, ◌≤◌, Bool, ◌&&◌, nat_eq}
use Rattle.kb_base.specs.Runs.{Stretch}
use Rattle.kb_timeline.specs.declared.entry.PlanRef.{PlanRef}
use Rattle.kb_align.specs.PeriodDays.{max_period_days}
use Rattle.kb_due.specs.declared.cell.Cell.{Cell}
use Rattle.kb_due.specs.declared.cell.Piece.{Piece}

-- two references name the same plan
abbrev pub same_plan : PlanRef → PlanRef → Bool
same_plan one other =
    nat_eq one.version other.version && nat_eq one.list other.list && nat_eq one.plan other.plan

-- two cells are the same
abbrev pub same_cell : Cell → Cell → Bool
same_cell one other =
    same_plan one.plan other.plan && nat_eq one.phase other.phase && nat_eq one.start other.start
    && nat_eq one.end other.end && nat_eq one.price other.price

-- a piece as a stretch of days with a cell
abbrev pub stretch_of : Piece → Stretch Cell
stretch_of piece = record { from = piece.from; to = piece.to; value = piece.cell }

-- a stretch lies inside the period of its cell, and that has no more days than a billing period may have
abbrev pub IsInCell : Stretch Cell → Type 0
IsInCell stretch =
    (stretch.value.start ≤ stretch.from) × (stretch.to ≤ stretch.value.end)
    × (stretch.value.end ≤ stretch.value.start + max_period_days)
