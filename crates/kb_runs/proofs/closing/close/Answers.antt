use Rattle.std.proofs.Common.{rules}
use Rattle.kb_runs.proofs.Told.{closes-status, closes-tells}
use Rattle.kb_runs.proofs.closing.close.Goals as goal

pub returns-in-Err-clause-status : goal.returns-in-Err-clause-status
returns-in-Err-clause-status g c = closes-status _ c.tell.result (g.O.Sink.written c.args.output.now)
    (g.O.Sink.written c.tell.new.output) c.tell.ensures.closes

pub returns-in-Err-clause-tells : goal.returns-in-Err-clause-tells
returns-in-Err-clause-tells g c =
    let told = closes-tells _ c.tell.result (g.O.Sink.written c.args.output.now)
    (g.O.Sink.written c.tell.new.output) c.tell.ensures.closes in
    search (rules, told)
