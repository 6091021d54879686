-- One lane more; and at the end all of them.
use Rattle.kb_lane.specs.Lanes.{machine_of}
use Rattle.kb_make.proofs.AddedSums.{lane_added, lanes_added}
use Rattle.kb_make.proofs.totals.Totals.of.Goals as goal

pub loop-lane-preserved : goal.loop-lane-preserved
loop-lane-preserved g c =
    lane_added machine_of c.args.lanes.now c.loop-lane.lane-index c.loop-lane.totals c.lane-item.result
    c.loop-lane-test.true c.lane-item.is c.in_ok-totals.totals _ c.in_ok-totals.ensures c.loop-lane.invariant

pub returns : goal.returns
returns g c =
    lanes_added machine_of c.args.lanes.now c.loop-lane.lane-index c.loop-lane.totals c.loop-lane-test.false
    c.loop-lane.invariant
