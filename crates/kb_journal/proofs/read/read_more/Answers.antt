use Rattle.kb_journal.proofs.Filled.{filled_more}
use Rattle.kb_journal.proofs.read.read_more.Goals as goal

pub returns-in-Ok-clause-read : goal.returns-in-Ok-clause-read
returns-in-Ok-clause-read g c honest before =
    filled_more _ _ _ _ c.args.filled c.in-Ok.count c.requires.room c.in-Ok.ensures.count.0 before
    (c.in-Ok.ensures.bytes honest).given
