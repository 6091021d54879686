use Rattle.std.proofs.Common.{◌+◌, ◌∙◌}
use Rattle.kb_apply.specs.LaneRuns.{outside_of}
use Rattle.kb_apply.proofs.LaneLoops.{drain_goes_on, part_ends, part_goes_on}
use Rattle.kb_apply.proofs.lanes.Lanes.drain_from.Goals as goal

pub loop-place-preserved : goal.loop-place-preserved
loop-place-preserved g c = (
  λ new later. c.loop-place.invariant.0 new (drain_goes_on
      (outside_of g.D.Disk.told g.G.Gateway.told g.C.Clock.day)
      c.args.today c.loop-place.place (c.args.first + c.args.count) c.loop-place.self c.loop-place-test.true
      c.drain_at.new.self c.drain_at.result c.drain_at.ensures.drained c.in_default.not-NoMemory new later),
  λ new later. c.loop-place.invariant.1 new (part_goes_on
      (outside_of g.D.Disk.told g.G.Gateway.told g.C.Clock.day)
      c.args.today c.loop-place.place (c.args.first + c.args.count) c.loop-place.self c.loop-place-test.true
      c.drain_at.new.self c.drain_at.result c.drain_at.ensures.drained new later),
  c.drain_at.ensures.count ∙ c.loop-place.invariant.2,
)

pub returns-in-NoMemory-clause-err : goal.returns-in-NoMemory-clause-err
returns-in-NoMemory-clause-err g c =
    c.loop-place.invariant.1 c.drain_at.new.self (part_goes_on
    (outside_of g.D.Disk.told g.G.Gateway.told g.C.Clock.day)
    c.args.today c.loop-place.place (c.args.first + c.args.count) c.loop-place.self c.loop-place-test.true
    c.drain_at.new.self c.drain_at.result c.drain_at.ensures.drained c.drain_at.new.self
    (part_ends (outside_of g.D.Disk.told
    g.G.Gateway.told g.C.Clock.day)
    c.args.today _ _ c.drain_at.new.self))
