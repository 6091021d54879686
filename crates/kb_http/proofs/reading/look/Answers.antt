use Rattle.kb_http.proofs.Looks.{sees_first}
use Rattle.kb_http.proofs.reading.look.Goals as goal

pub returns : goal.returns
returns c = sees_first c.args.pending.now c.min.result c.see_head.result c.min.ensures c.see_head.ensures
