use Rattle.std.proofs.Common.{[], sym, length}
use Rattle.std.proofs.lemmas.List.{append-nil}
use Rattle.kb_apply.specs.LaneRuns.{outside_of}
use Rattle.kb_apply.specs.Addressed.{account_on, lanes_on, first_lane}
use Rattle.kb_apply.proofs.LaneLoops.{part_ends}
use Rattle.kb_json.proofs.Lines.{on_err, on_ok}
use Rattle.kb_apply.proofs.lanes.Lanes.serve.Goals as goal

pub returns-in-Ok-clause-ok : goal.returns-in-Ok-clause-ok
returns-in-Ok-clause-ok g c = on_ok c.drain_from.result (λ drains. (
  c.in-Ok.ensures.ok.0,
  c.in-Ok.ensures.ok.1,
  (
    c.day_or_today-today.result,
    c.reply_to-spoken.new.self,
    c.reply_to-spoken.result,
    rw (← c.self.view_is) c.day_or_today-today.ensures,
    c.reply_to-spoken.ensures.served,
    c.in-Ok.ensures.ok.2,
    rw (← c.count-count.ensures.count, ← c.lanes_of-first.ensures.first, ← c.lanes_of-first.ensures.count)
        drains,
  ),
)) c.drain_from.ensures.ok

pub returns-in-Ok-clause-err : goal.returns-in-Ok-clause-err
returns-in-Ok-clause-err g c = on_err c.drain_from.result (λ drains. (
  c.in-Ok.ensures.ok.0,
  c.in-Ok.ensures.ok.1,
  (
    c.day_or_today-today.result,
    c.reply_to-spoken.new.self,
    c.reply_to-spoken.result,
    rw (← c.self.view_is) c.day_or_today-today.ensures,
    c.reply_to-spoken.ensures.served,
    (c.in-Ok.ensures.ok.0, c.in-Ok.ensures.ok.2, ([], sym (append-nil c.in-Ok.ensures.ok.0))),
    rw (← c.count-count.ensures.count, ← c.lanes_of-first.ensures.first, ← c.lanes_of-first.ensures.count)
        drains,
  ),
)) c.drain_from.ensures.err

pub returns-in-Err-clause-err : goal.returns-in-Err-clause-err
returns-in-Err-clause-err g c = (
  c.in-Err.ensures.err.0,
  c.in-Err.ensures.err.1,
  (
    c.day_or_today-today.result,
    c.reply_to-spoken.new.self,
    c.reply_to-spoken.result,
    rw (← c.self.view_is) c.day_or_today-today.ensures,
    c.reply_to-spoken.ensures.served,
    c.in-Err.ensures.err.2,
    part_ends (outside_of g.D.Disk.told
        g.G.Gateway.told g.C.Clock.day) c.day_or_today-today.result
        (first_lane (length c.args.self.now.lanes) (account_on c.args.request.now.what))
        (lanes_on (length c.args.self.now.lanes) (account_on c.args.request.now.what))
        c.reply_to-spoken.new.self,
  ),
)
