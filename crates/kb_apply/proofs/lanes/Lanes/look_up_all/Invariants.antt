use Rattle.std.proofs.Common.{◌≡◌, ◌-◌, length}
use Rattle.kb_book.specs.declared.step.Step.{Step}
use Rattle.kb_apply.specs.LaneRuns.{outside_of, LanesValue, LookUpFrom}
use Rattle.kb_apply.proofs.lanes.Lanes.look_up_all.Given as goal

-- what the lanes left do completes what was done
abbrev pub invariant-loop-place : goal.invariant-loop-place
invariant-loop-place g l =
    ((new : LanesValue g.row.D.Denot g.row.G.Denot g.row.C.Denot) (step : Step)
    → LookUpFrom (outside_of g.D.Disk.told
    g.G.Gateway.told g.C.Clock.day)
    l.today l.place (l.count - l.place) l.self new step
    → LookUpFrom (outside_of g.D.Disk.told
    g.G.Gateway.told g.C.Clock.day)
    l.today 0 l.count l.initial.self new step)
    × (length l.self.lanes ≡ length l.initial.self.lanes)
