-- What was added and the lanes that are left give all.
use Rattle.std.proofs.Common.{◌≡◌, drop, map}
use Rattle.kb_lane.specs.Lanes.{machine_of}
use Rattle.kb_make.specs.Totals.{sums_in}
use Rattle.kb_make.specs.Private.Adding.{no_totals, plus_all}
use Rattle.kb_make.proofs.totals.Totals.of.Given as goal

abbrev pub invariant-loop-lane : goal.invariant-loop-lane
invariant-loop-lane g l =
    plus_all l.totals (sums_in (map machine_of (drop l.lane-index l.lanes)))
    ≡ plus_all no_totals (sums_in (map machine_of l.lanes))
