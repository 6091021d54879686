use Rattle.std.proofs.Common.{rules}
use Rattle.kb_lock.proofs.Moves.{draws}
use Rattle.kb_lock.proofs.steps.draw_ticket.Goals as goal

pub compare_exchange-requires : goal.compare_exchange-requires
compare_exchange-requires g c =
    (search rules, search rules, draws g.T.Counted.history _ _ _ _ c.requires.idle c.requires.more)
