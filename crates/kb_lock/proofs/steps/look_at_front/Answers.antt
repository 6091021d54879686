use Rattle.std.proofs.Common.{rules}
use Rattle.kb_lock.proofs.Moves.{shows}
use Rattle.kb_lock.proofs.steps.look_at_front.Goals as goal

pub load-requires : goal.load-requires
load-requires g c = (search rules, search rules, shows g.T.Counted.history _ _ _ c.requires.noting)
