use Rattle.std.proofs.Common.{◌∙◌}
use Rattle.kb_apply.specs.LaneRuns.{outside_of}
use Rattle.kb_apply.proofs.LaneLoops.{look_up_ends, look_up_goes_on}
use Rattle.kb_apply.proofs.lanes.Lanes.look_up_all.Goals as goal

pub loop-place-preserved : goal.loop-place-preserved
loop-place-preserved g c = (
  λ new step later. c.loop-place.invariant.0 new step (look_up_goes_on
      (outside_of g.D.Disk.told g.G.Gateway.told g.C.Clock.day)
      c.args.today c.loop-place.place c.count-count.result c.loop-place.self c.loop-place-test.true
      c.look_up_at.new.self c.in-Done.ensures.looked new step later),
  c.look_up_at.ensures.count ∙ c.loop-place.invariant.1,
)

pub returns-in_default : goal.returns-in_default
returns-in_default g c = record {
  looked = rw (← c.count-count.ensures.count) (c.loop-place.invariant.0 c.look_up_at.new.self
      c.look_up_at.result
      (look_up_ends (outside_of g.D.Disk.told
      g.G.Gateway.told g.C.Clock.day)
      c.args.today c.loop-place.place c.count-count.result c.loop-place.self c.loop-place-test.true
      c.look_up_at.new.self c.look_up_at.result c.look_up_at.ensures.looked c.in_default.not-Done));
  count = c.look_up_at.ensures.count ∙ c.loop-place.invariant.1;
}
