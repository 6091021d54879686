use Rattle.std.proofs.Common.{◌≤◌, ◌<◌, ◌+◌, ℕ, arith, refl}
use Rattle.kb_lane.specs.LaneWork.{lane_work}
use Rattle.kb_lane.proofs.Going.{itself_then, well_then}
use Rattle.kb_lane.specs.Drains.{Handles}
use Rattle.kb_lane.proofs.Handled.{ended, one_more}
use Rattle.kb_lane.proofs.drains.drain.Goals as goal

pub entries-preserved : goal.entries-preserved
entries-preserved g c = (
  (
    c.entries.invariant.0.0 + 1,
    lower _ _ _ _ c.entries.invariant.0.1 (c.in-Done.ensures.lowers refl),
    one_more (Handles g.D.Disk.told.fault_count g.G.Gateway.told c.args.today)
        (lane_work c.args.today) c.args.lane.now c.entries.lane c.handle.new.lane c.entries.invariant.0.0
        c.entries.invariant.0.2 c.in-Done.ensures.handled,
  ),
  well_then g.D.Disk.told.honest g.D.Disk.told.moment g.D.Disk.told.left_since c.args.lane.now.log
      c.entries.lane.log
      c.handle.new.lane.log c.entries.invariant.1 c.handle.ensures.well c.entries.invariant.2.as_honest
      c.handle.ensures.itself.lanes c.handle.ensures.itself.lane,
  itself_then g.D.Disk.told.honest g.D.Disk.told.fault_count c.args.lane.now c.entries.lane c.handle.new.lane
      c.entries.invariant.2 c.handle.ensures.itself,
)
  where
    lower : (handled now next start : ℕ) → handled + now ≤ start → next < now → (handled + 1) + next ≤ start
    lower handled now next start few less = omega (arith, few, less)

pub returns-in_default : goal.returns-in_default
returns-in_default g c = record {
  drained = ended (Handles g.D.Disk.told.fault_count g.G.Gateway.told c.args.today)
      (lane_work c.args.today) c.args.lane.now c.entries.lane c.handle.new.lane c.handle.result
      c.entries.invariant.0.0 c.entries.invariant.0.1 c.entries.invariant.0.2 c.in_default.not-Done
      c.handle.ensures.handled;
  well = well_then g.D.Disk.told.honest g.D.Disk.told.moment g.D.Disk.told.left_since c.args.lane.now.log
      c.entries.lane.log
      c.handle.new.lane.log c.entries.invariant.1 c.handle.ensures.well c.entries.invariant.2.as_honest
      c.handle.ensures.itself.lanes c.handle.ensures.itself.lane;
  itself = itself_then g.D.Disk.told.honest g.D.Disk.told.fault_count c.args.lane.now c.entries.lane
      c.handle.new.lane
      c.entries.invariant.2 c.handle.ensures.itself;
}
