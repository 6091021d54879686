use Rattle.std.proofs.Common.{refl, ◌∙◌}
use Rattle.kb_lane.specs.Lanes.{machine_of}
use Rattle.kb_lane.specs.LookingUp.{Looked}
use Rattle.kb_book.specs.declared.step.Step.TheVariants as steps
use Rattle.kb_lane.proofs.Going.{itself_then, well_then}
use Rattle.kb_lane.proofs.LookedWell.{looked_well}
use Rattle.kb_lane.proofs.LookingUp.{each_then, each_ends, front_open, later_open}
use Rattle.kb_lane.proofs.lane.Lane.look_up_each.Goals as goal

pub look_up-requires-clause-opened : goal.look_up-requires-clause-opened
look_up-requires-clause-opened g c =
    front_open c.args.payments.now c.loop-payment.payment-index c.payment-item.result c.loop-payment-test.true
    c.payment-item.is (machine_of c.loop-payment.self) c.loop-payment.invariant.1

pub loop-payment-preserved : goal.loop-payment-preserved
loop-payment-preserved g c = (
  λ new step later. c.loop-payment.invariant.0 new step
      (each_then (Looked g.D.Disk.told.fault_count g.G.Gateway.told c.args.today)
      c.loop-payment.self c.look_up.new.self c.args.payments.now c.loop-payment.payment-index
      c.payment-item.result
      c.loop-payment-test.true c.payment-item.is c.in-Done.ensures.looked new step later),
  later_open c.args.payments.now c.loop-payment.payment-index c.payment-item.result c.loop-payment-test.true
      c.payment-item.is (machine_of c.loop-payment.self) c.loop-payment.invariant.1
      (machine_of c.look_up.new.self)
      c.requires.them.apart (c.in-Done.ensures.others refl),
  c.in-Done.ensures.asks refl ∙ c.loop-payment.invariant.2,
  c.in-Done.ensures.silent ∙ c.loop-payment.invariant.3,
  c.in-Done.ensures.own ∙ c.loop-payment.invariant.4,
  itself_then g.D.Disk.told.honest g.D.Disk.told.fault_count c.args.self.now c.loop-payment.self
      c.look_up.new.self
      c.loop-payment.invariant.5 c.in-Done.ensures.itself,
  well_then g.D.Disk.told.honest g.D.Disk.told.moment g.D.Disk.told.left_since c.args.self.now.log
      c.loop-payment.self.log
      c.look_up.new.self.log c.loop-payment.invariant.6 (looked_well g.D.Disk.told.honest g.D.Disk.told.moment
      g.D.Disk.told.left_since g.D.Disk.told.fault_count g.G.Gateway.told c.args.today
      c.loop-payment.self c.look_up.new.self c.payment-item.result c.in-Done.ensures.further
      c.in-Done.ensures.within
      steps.Done c.in-Done.ensures.looked c.in-Done.ensures.past)
      c.loop-payment.invariant.5.as_honest c.in-Done.ensures.itself.lanes c.in-Done.ensures.itself.lane,
)

pub returns-in_default : goal.returns-in_default
returns-in_default g c = record {
  busy = c.look_up.ensures.busy;
  looked = c.loop-payment.invariant.0 c.look_up.new.self c.look_up.result (each_ends
      (Looked g.D.Disk.told.fault_count g.G.Gateway.told c.args.today)
      c.loop-payment.self c.look_up.new.self c.args.payments.now c.loop-payment.payment-index
      c.payment-item.result
      c.loop-payment-test.true c.payment-item.is c.look_up.result c.in_default.not-Done
      c.look_up.ensures.looked);
  silent = c.look_up.ensures.silent ∙ c.loop-payment.invariant.3;
  own = c.look_up.ensures.own ∙ c.loop-payment.invariant.4;
  well = well_then g.D.Disk.told.honest g.D.Disk.told.moment g.D.Disk.told.left_since c.args.self.now.log
      c.loop-payment.self.log
      c.look_up.new.self.log c.loop-payment.invariant.6 (looked_well g.D.Disk.told.honest g.D.Disk.told.moment
      g.D.Disk.told.left_since g.D.Disk.told.fault_count g.G.Gateway.told c.args.today
      c.loop-payment.self c.look_up.new.self c.payment-item.result c.look_up.ensures.further
      c.look_up.ensures.within
      c.look_up.result c.look_up.ensures.looked c.look_up.ensures.past)
      c.loop-payment.invariant.5.as_honest c.look_up.ensures.itself.lanes c.look_up.ensures.itself.lane;
  itself = itself_then g.D.Disk.told.honest g.D.Disk.told.fault_count c.args.self.now c.loop-payment.self
      c.look_up.new.self
      c.loop-payment.invariant.5 c.look_up.ensures.itself;
}
