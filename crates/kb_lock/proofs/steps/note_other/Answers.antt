use Rattle.std.proofs.Common.{rules}
use Rattle.kb_lock.proofs.Moves.{joins}
use Rattle.kb_lock.proofs.steps.note_other.Goals as goal

pub join_seat-requires : goal.join_seat-requires
join_seat-requires g c =
    let both = c.requires.idle in
    let kept = joins g.T.Counted.history _ _ _ _ both.0 both.1 in
    (search rules, search rules, search rules, search rules, kept)
