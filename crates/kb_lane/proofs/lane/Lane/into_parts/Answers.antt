use Rattle.kb_lane.specs.Asking.{asks_in}
use Rattle.kb_lane.specs.Lanes.{machine_of, opened_of}
use Rattle.kb_lane.proofs.Asking.{was_asked_once}
use Rattle.kb_lane.proofs.lane.Lane.into_parts.Goals as goal
use Rattle.kb_gateway.specs.Told.{payments_asked}

pub returns-clause-once : goal.returns-clause-once
returns-clause-once g c = was_asked_once (opened_of c.args.self) (machine_of c.args.self) c.args.self.own
    (asks_in c.args.self.outbox) ((payments_asked g.G.Gateway.told) c.args.self.gateway)
    (rw (← c.self.view_is) c.self.invariant.once)

pub returns-clause-attempts : goal.returns-clause-attempts
returns-clause-attempts g c = rw (← c.self.view_is) c.self.invariant.once.asked
