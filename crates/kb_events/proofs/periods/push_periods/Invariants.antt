-- The days that were gone over are told.
use Rattle.std.proofs.Common.{◌≡◌, ℕ, ◌-◌, ◌≤◌, Option, map}
use Rattle.kb_base.specs.Runs.{runs}
use Rattle.kb_due.specs.declared.cell.Cell.{Cell}
use Rattle.kb_due.specs.CellStretches.{same_cell, stretch_of}
use Rattle.kb_events.specs.Private.Shorts.{AreShort}
use Rattle.kb_events.proofs.PeriodRuns.{IsBegunKey}
use Rattle.kb_events.proofs.periods.push_periods.Given as goal

abbrev pub invariant-loop-billed : goal.invariant-loop-billed
invariant-loop-billed l =
    (l.fn.from ≤ l.day) × (l.day ≤ l.to)
    × ((key : ℕ → Option Cell) (first : ℕ) → first ≤ l.fn.from
    → IsBegunKey l.facts l.subscription l.governing l.billed l.fn.from l.to key
    → map stretch_of l.fn.found.items ≡ runs same_cell key first (l.fn.from - first)
    → map stretch_of l.found.items ≡ runs same_cell key first (l.day - first))
    × (AreShort (map stretch_of l.fn.found.items) → AreShort (map stretch_of l.found.items))

abbrev pub decreases-loop-billed : goal.decreases-loop-billed
decreases-loop-billed l = l.to - l.day
