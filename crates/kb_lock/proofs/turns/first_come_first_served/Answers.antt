use Rattle.kb_lock.proofs.InTurn.{draws_in_turn, serves_in_turn}
use Rattle.kb_lock.proofs.turns.first_come_first_served.Goals as goal

pub returns : goal.returns
returns g c =
    record { drawn = draws_in_turn g.T.Counted.history; served = serves_in_turn g.T.Counted.history }
