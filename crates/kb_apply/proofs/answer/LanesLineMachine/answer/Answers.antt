use Rattle.std.proofs.Common.{Ok, Err, refl}
use Rattle.kb_json.proofs.Lines.{on_err, on_ok}
use Rattle.kb_apply.proofs.answer.LanesLineMachine.answer.Goals as goal

pub returns-in-Ok-clause-ok : goal.returns-in-Ok-clause-ok
returns-in-Ok-clause-ok g c = on_ok c.serve.result (λ told. (
  told.0,
  told.1,
  (Ok c.in-Ok.request, c.in-Ok.ensures.asked, told.2),
)) c.serve.ensures.ok

pub returns-in-Ok-clause-err : goal.returns-in-Ok-clause-err
returns-in-Ok-clause-err g c = on_err c.serve.result (λ told. (
  told.0,
  told.1,
  (Ok c.in-Ok.request, c.in-Ok.ensures.asked, told.2),
)) c.serve.ensures.err

pub returns-in-Err-clause-ok : goal.returns-in-Err-clause-ok
returns-in-Err-clause-ok g c = on_ok c.tell.result (λ told. (
  told.0,
  told.1,
  (Err c.in-Err.fault, c.in-Err.ensures.asked, (told.2, refl)),
)) c.tell.ensures.ok

pub returns-in-Err-clause-err : goal.returns-in-Err-clause-err
returns-in-Err-clause-err g c = on_err c.tell.result (λ told. (
  told.0,
  told.1,
  (Err c.in-Err.fault, c.in-Err.ensures.asked, (told.2, refl)),
)) c.tell.ensures.err
