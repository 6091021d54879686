use Rattle.kb_make.proofs.Sendings.{sends_opening}
use Rattle.kb_make.proofs.place.Place.next_account.Goals as goal

pub returns-clause-sent : goal.returns-clause-sent
returns-clause-sent c =
    rw (c.opening.ensures, c.draw-first.ensures.value)
    (sends_opening c.args.self.now c.requires.nothing c.draw.new.self c.start_day-start.result c.args.key
    c.requires.over c.requires.left (rw c.draw-first.ensures.next at c.draw.ensures.next)
    (rw (c.draw.ensures.value, c.draw-first.ensures.next) at c.start_day-start.ensures))
