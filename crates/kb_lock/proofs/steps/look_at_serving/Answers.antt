use Rattle.std.proofs.Common.{rules}
use Rattle.kb_lock.proofs.Moves.{looks}
use Rattle.kb_lock.proofs.steps.look_at_serving.Goals as goal

pub load-requires : goal.load-requires
load-requires g c =
    (search rules, search rules, looks g.T.Counted.history _ _ _ _ c.requires.waits)
