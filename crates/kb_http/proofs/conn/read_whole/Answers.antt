use Rattle.kb_http.proofs.Ahead.{reads_on}
use Rattle.kb_http.proofs.Taken.{lacks_body}
use Rattle.kb_http.proofs.conn.read_whole.Goals as goal

pub returns-in-Ok-true-clause-ahead : goal.returns-in-Ok-true-clause-ahead
returns-in-Ok-true-clause-ahead g c =
    reads_on _ _ _ _ _ _ _ _ _ c.read_head.ensures.ahead c.fill.ensures.ahead

pub returns-in-Ok-false-clause-ahead : goal.returns-in-Ok-false-clause-ahead
returns-in-Ok-false-clause-ahead g c =
    reads_on _ _ _ _ _ _ _ _ _ c.read_head.ensures.ahead c.fill.ensures.ahead

pub returns-in-Err-fill-clause-ahead : goal.returns-in-Err-fill-clause-ahead
returns-in-Err-fill-clause-ahead g c =
    reads_on _ _ _ _ _ _ _ _ _ c.read_head.ensures.ahead c.fill.ensures.ahead

pub returns-in-Ok-false-clause-err : goal.returns-in-Ok-false-clause-err
returns-in-Ok-false-clause-err g c =
    let end = c.in-Ok-false.ensures.end c.in-Ok-false.field-0-test in
    let grown = c.fill.ensures.ahead.grown in (
      lacks_body c.read_head.new.pending.items grown.0 c.fill.new.pending.items c.in-Ok.head
          c.in-Ok-body.count grown.1
          c.in-Ok.ensures.head c.in-Ok-body.is end.0,
      end.1,
    )
