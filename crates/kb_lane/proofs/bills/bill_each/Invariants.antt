use Rattle.std.proofs.Common.{◌≡◌, ◌*◌, ◌++◌, List, drop}
use Rattle.kb_lane.specs.Lanes.{LaneValue, StaysItself}
use Rattle.kb_lane.specs.Going.{GoesWell}
use Rattle.kb_lane.specs.Bills.{BillsEach}
use Rattle.kb_lane.specs.Tallies.{Answer, IsAtMost, tally_of}
use Rattle.kb_lane.proofs.bills.bill_each.Given as goal

-- what is left to bill completes what was billed, and each account adds two at most
abbrev pub invariant-loop-account : goal.invariant-loop-account
invariant-loop-account g l =
    ((done : List Answer) × (l.tally ≡ tally_of done)
    × ((new : LaneValue g.row.D.Denot g.row.G.Denot) (rest : List Answer)
    → BillsEach g.D.Disk.told.fault_count g.G.Gateway.told l.day
    (drop l.account-index l.accounts) l.lane new rest
    → BillsEach g.D.Disk.told.fault_count g.G.Gateway.told l.day l.accounts
    l.initial.lane new (done ++ rest)))
    × IsAtMost (2 * l.account-index) l.tally
    × GoesWell g.D.Disk.told.honest g.D.Disk.told.moment g.D.Disk.told.left_since l.initial.lane.log
    l.lane.log
    × StaysItself g.D.Disk.told.honest g.D.Disk.told.fault_count l.initial.lane l.lane
