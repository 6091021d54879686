use Rattle.std.proofs.Common.{[], arith, append-nil, sym}
use Rattle.kb_base.proofs.Sessions.{moves-piece-at, moves-byte-at}
use Rattle.kb_runs.proofs.taking.take_byte.Goals as goal

pub returns-in-Ok-clause-ok : goal.returns-in-Ok-clause-ok
returns-in-Ok-clause-ok g c =
    let ended = c.in-Ok.ensures.ok in
    (ended.0, ended.1, moves-piece-at g.M.LineMachine.machine _ _ _ _ _ _ c.if-byte-eq10.true ended.3 ended.2)

pub returns-in_ok-push-clause-ok : goal.returns-in_ok-push-clause-ok
returns-in_ok-push-clause-ok g c = (
  [],
  sym (append-nil c.args.said.now.items),
  moves-byte-at g.M.LineMachine.machine _ _ _ _
      c.if-byte-eq10.false (omega arith) c.in_ok-push.ensures.items,
)
