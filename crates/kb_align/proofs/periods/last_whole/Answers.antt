use Rattle.std.proofs.Common.{refl, arith}
use Rattle.kb_align.proofs.Neighbours.{whole_periods}
use Rattle.kb_align.proofs.periods.last_whole.Goals as goal

pub returns-clause-whole : goal.returns-clause-whole
returns-clause-whole c =
    whole_periods c.args.first c.args.months c.args.last _ c.requires.some_month (omega arith) (omega arith)
    refl
