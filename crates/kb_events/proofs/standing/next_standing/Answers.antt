-- The last turn up to the day tells how the flag stands.
use Rattle.std.proofs.Common.{subst, sym, Bool, ap, ◌∙◌}
use Rattle.kb_blocking.specs.Blocking.{differ}
use Rattle.kb_events.specs.Private.Standing.{IsStanding}
use Rattle.kb_events.proofs.Standings.{IsStanding-next}
use Rattle.kb_events.proofs.standing.next_standing.Goals as goal

pub returns-clause-stands : goal.returns-clause-stands
returns-clause-stands c states chain are keeps stood =
    let turn = c.turn_by-turn.result in
    let flips = c.flipped.ensures ∙ ap (λ (turned : Bool). differ turned c.args.standing.now.blocked)
    c.eq.ensures in
    subst (λ (blocked : Bool). IsStanding states chain c.args.day blocked turn) (sym flips)
    (IsStanding-next states chain c.args.turns.now are c.args.standing.now.day c.args.day c.requires.named
    c.requires.later keeps
    c.args.standing.now.blocked c.args.standing.now.turn turn stood c.turn_by-turn.ensures.past
    c.turn_by-turn.ensures.turned c.turn_by-turn.ensures.last)
