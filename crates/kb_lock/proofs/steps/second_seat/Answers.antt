use Rattle.std.proofs.Common.{rules}
use Rattle.kb_lock.proofs.Moves.{splits}
use Rattle.kb_lock.proofs.steps.second_seat.Goals as goal

pub split_seat-requires : goal.split_seat-requires
split_seat-requires g c = (search rules, search rules, splits g.T.Counted.history _ _)
