use Rattle.std.proofs.Common.{rules}
use Rattle.kb_lock.proofs.Moves.{tells}
use Rattle.kb_lock.proofs.steps.set_front.Goals as goal

pub store-requires : goal.store-requires
store-requires g c =
    let r = c.requires.grown in
    (search rules, search rules, tells g.T.Counted.history _ _ _ _ r.0 r.1 r.2 r.3)
