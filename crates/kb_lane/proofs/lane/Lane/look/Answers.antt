use Rattle.std.proofs.Common.{◌≡◌, ◌++◌, ◌∷◌, drop, deque_items, sym, ap, ◌∙◌}
use Rattle.kb_gateway.specs.Told.{payments_asked}
use Rattle.kb_lane.specs.Outbox.{work_of}
use Rattle.kb_lane.specs.declared.work.Work.TheVariants as works
use Rattle.kb_lane.proofs.Kept.{lane_looked}
use Rattle.kb_lane.proofs.lane.Lane.look.Goals as goal

pub invariant_of-self : goal.invariant_of-self
invariant_of-self g c = lane_looked (payments_asked g.G.Gateway.told) c.self.inside.machine _ c.self.invariant
    c.args.account _ _
    (sym (rw (← c.self.view_is) at c.requires.first)) c.pop_front.ensures.rest

pub invariant_of-self-in-Done : goal.invariant_of-self-in-Done
invariant_of-self-in-Done g c =
    let later = drop 1 c.args.self.now.outbox ++ work_of (c.args.today, c.in-Some.command) in
    let front : deque_items c.self-2.inside.outbox ≡ works.Check c.args.account ∷ later
    = ap (λ lane. lane.outbox) c.self-2.view_is ∙ c.in-Done.ensures.writes.outbox
    ∙ ap (λ before. before ++ work_of (c.args.today, c.in-Some.command)) (sym c.requires.first) in
    lane_looked (payments_asked g.G.Gateway.told) c.self-2.inside.machine _ c.self-2.invariant c.args.account
    later _ front
    (c.pop_front-in-Done.ensures.rest ∙ ap (λ before. drop 1 before) front)

pub returns-in-Done-clause-moments : goal.returns-in-Done-clause-moments
returns-in-Done-clause-moments g c = rw (← c.self-2.view_is) at c.in-Done.ensures.moments
