use Rattle.std.proofs.Common.{◌≤◌, ◌+◌, ℕ}
use Rattle.kb_book.specs.declared.step.Step.{Step}
use Rattle.kb_lane.specs.Lanes.{LaneValue, StaysItself}
use Rattle.kb_lane.specs.Going.{GoesWell}
use Rattle.kb_lane.specs.LaneWork.{lane_work}
use Rattle.kb_lane.specs.Drains.{EndsAfter, Handles}
use Rattle.kb_lane.proofs.drains.drain.Given as goal

-- what ends from here on ends what was begun, in no more steps than the work that was taken off
abbrev pub invariant-entries : goal.invariant-entries
invariant-entries g l =
    ((handled : ℕ) × (handled + lane_work l.today l.lane ≤ lane_work l.today l.fn.lane)
    × ((more : ℕ) (new : LaneValue g.row.D.Denot g.row.G.Denot) (step : Step)
    → EndsAfter (Handles g.D.Disk.told.fault_count g.G.Gateway.told l.today)
    more
    l.lane new step
    → (count : ℕ) × (count ≤ handled + more)
    × EndsAfter (Handles g.D.Disk.told.fault_count g.G.Gateway.told l.today)
    count
    l.fn.lane new step))
    × GoesWell g.D.Disk.told.honest g.D.Disk.told.moment g.D.Disk.told.left_since l.fn.lane.log l.lane.log
    × StaysItself g.D.Disk.told.honest g.D.Disk.told.fault_count l.fn.lane l.lane

abbrev pub decreases-entries : goal.decreases-entries
decreases-entries g l = lane_work l.today l.lane
