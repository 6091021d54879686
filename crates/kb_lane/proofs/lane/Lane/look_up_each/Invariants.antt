use Rattle.std.proofs.Common.{◌≡◌, drop, All}
use Rattle.kb_gateway.specs.declared.order.Asked.{Asked}
use Rattle.kb_book.specs.declared.step.Step.{Step}
use Rattle.kb_lane.specs.Asking.{asks_in, attempt_asked}
use Rattle.kb_lane.specs.Lanes.{LaneValue, StaysItself, machine_of}
use Rattle.kb_lane.specs.LookingUp.{EachDone, Looked}
use Rattle.kb_lane.specs.Private.Looking.{IsOpen}
use Rattle.kb_lane.specs.Going.{GoesWell}
use Rattle.kb_lane.proofs.lane.Lane.look_up_each.Given as goal

-- what is left to do from here on completes what was done
abbrev pub invariant-loop-payment : goal.invariant-loop-payment
invariant-loop-payment g l =
    ((new : LaneValue g.row.D.Denot g.row.G.Denot) (step : Step)
    → EachDone (Looked g.D.Disk.told.fault_count g.G.Gateway.told l.today)
    l.self new
    (drop l.payment-index l.payments) step
    → EachDone (Looked g.D.Disk.told.fault_count g.G.Gateway.told l.today)
    l.initial.self new l.payments step)
    × All (λ (one : Asked). IsOpen (attempt_asked (machine_of l.self) one)) (drop l.payment-index l.payments)
    × (asks_in l.self.outbox ≡ asks_in l.initial.self.outbox)
    × (g.G.Gateway.told.asked l.self.gateway ≡ g.G.Gateway.told.asked l.initial.self.gateway)
    × (l.self.own ≡ l.initial.self.own)
    × StaysItself g.D.Disk.told.honest g.D.Disk.told.fault_count l.initial.self l.self
    × GoesWell g.D.Disk.told.honest g.D.Disk.told.moment g.D.Disk.told.left_since l.initial.self.log
    l.self.log
