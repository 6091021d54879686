use Rattle.kb_json.proofs.AskedCallers.{read_callers}
use Rattle.kb_json.proofs.reading.read_request.Goals as goal

pub returns-clause-callers : goal.returns-clause-callers
returns-clause-callers c = read_callers c.args.dated c.args.line.now c.read_line.result c.read_line.ensures
