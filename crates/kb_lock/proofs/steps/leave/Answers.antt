use Rattle.std.proofs.Common.{rules}
use Rattle.kb_lock.proofs.Moves.{leaves}
use Rattle.kb_lock.proofs.steps.leave.Goals as goal

pub fetch_add-requires : goal.fetch_add-requires
fetch_add-requires g c =
    let r = c.requires.told in
    (search rules, search rules, leaves g.T.Counted.history _ _ _ r.0 r.1)
