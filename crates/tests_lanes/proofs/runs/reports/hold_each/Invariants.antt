-- No lane is out between two reports.
use Rattle.tests_lanes.specs.Insides.{AllInside}
use Rattle.tests_lanes.proofs.runs.reports.hold_each.Given as goal

abbrev pub invariant-loop-row : goal.invariant-loop-row
invariant-loop-row l = AllInside l.vault
