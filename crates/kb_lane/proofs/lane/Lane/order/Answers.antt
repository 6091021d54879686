use Rattle.std.proofs.Common.{sym}
use Rattle.kb_gateway.specs.Told.{payments_asked}
use Rattle.kb_lane.proofs.Kept.{lane_orders}
use Rattle.kb_lane.proofs.Settling.{asks_orders}
use Rattle.kb_lane.proofs.lane.Lane.order.Goals as goal

pub order_of-order-requires : goal.order_of-order-requires
order_of-order-requires g c = record {
  there = rw (← c.self.view_is)
      (lane_orders (payments_asked g.G.Gateway.told) c.self.inside.machine _ c.self.invariant
      c.args.account c.args.key _ (sym (rw (← c.self.view_is) at c.requires.first)));
}

pub returns-in-Ok-clause-orders : goal.returns-in-Ok-clause-orders
returns-in-Ok-clause-orders g c = λ later front. asks_orders g.D.Disk.told.fault_count g.G.Gateway.told
    c.args.self.now _ c.args.today c.args.account c.args.key later c.ask.result
    c.ask.ensures.busy
    (c.ask.ensures.asked later front)
