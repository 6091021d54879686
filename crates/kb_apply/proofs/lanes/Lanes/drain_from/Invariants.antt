use Rattle.std.proofs.Common.{◌≡◌, ◌-◌, length}
use Rattle.kb_apply.specs.LaneRuns.{outside_of, LanesValue, DrainFrom, DrainPart}
use Rattle.kb_apply.proofs.lanes.Lanes.drain_from.Given as goal

-- what the lanes left do completes what was done, wholly or in part
abbrev pub invariant-loop-place : goal.invariant-loop-place
invariant-loop-place g l =
    ((new : LanesValue g.row.D.Denot g.row.G.Denot g.row.C.Denot)
    → DrainFrom (outside_of g.D.Disk.told
    g.G.Gateway.told g.C.Clock.day)
    l.today l.place (l.last - l.place) l.self new
    → DrainFrom (outside_of g.D.Disk.told
    g.G.Gateway.told g.C.Clock.day)
    l.today l.first l.count l.initial.self new)
    × ((new : LanesValue g.row.D.Denot g.row.G.Denot g.row.C.Denot)
    → DrainPart (outside_of g.D.Disk.told
    g.G.Gateway.told g.C.Clock.day)
    l.today l.place (l.last - l.place) l.self new
    → DrainPart (outside_of g.D.Disk.told
    g.G.Gateway.told g.C.Clock.day)
    l.today l.first l.count l.initial.self new)
    × (length l.self.lanes ≡ length l.initial.self.lanes)
