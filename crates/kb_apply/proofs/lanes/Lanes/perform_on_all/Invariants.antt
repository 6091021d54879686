use Rattle.std.proofs.Common.{◌≡◌, ◌-◌, length}
use Rattle.kb_book.specs.declared.reply.LaneReply.{LaneReply}
use Rattle.kb_apply.specs.LaneRuns.{outside_of, LanesValue, TextFrom}
use Rattle.kb_apply.proofs.lanes.Lanes.perform_on_all.Given as goal

-- what the lanes left do completes what was done
abbrev pub invariant-loop-place : goal.invariant-loop-place
invariant-loop-place g l =
    ((new : LanesValue g.row.D.Denot g.row.G.Denot g.row.C.Denot) (reply : LaneReply)
    → TextFrom (outside_of g.D.Disk.told
    g.G.Gateway.told g.C.Clock.day)
    l.today l.command l.place (l.last - l.place) l.self new reply
    → TextFrom (outside_of g.D.Disk.told
    g.G.Gateway.told g.C.Clock.day)
    l.today l.command 0 l.last l.initial.self new reply)
    × (length l.self.lanes ≡ length l.initial.self.lanes)
