-- What was added and the lanes that are left give all.
use Rattle.std.proofs.Common.{◌≡◌, ◌++◌, drop, map}
use Rattle.kb_lane.specs.Lanes.{machine_of}
use Rattle.kb_reports.specs.Listings.{accounts_from}
use Rattle.kb_reports.proofs.listed.collected.Given as goal

abbrev pub invariant-loop-number : goal.invariant-loop-number
invariant-loop-number g l =
    l.listed.items ++ accounts_from l.number (map machine_of (drop l.number l.lanes))
    ≡ accounts_from 0 (map machine_of l.lanes)
