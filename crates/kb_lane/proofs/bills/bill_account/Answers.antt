use Rattle.kb_lane.proofs.Going.{well_then}
use Rattle.kb_lane.proofs.bills.bill_account.Goals as goal

pub returns-clause-well : goal.returns-clause-well
returns-clause-well g c =
    well_then g.D.Disk.told.honest g.D.Disk.told.moment g.D.Disk.told.left_since c.args.lane.now.log
    c.give_bill-reply.new.lane.log c.drain-step.new.lane.log c.give_bill-reply.ensures.well
    c.drain-step.ensures.well c.give_bill-reply.ensures.itself.as_honest
    c.drain-step.ensures.itself.lanes c.drain-step.ensures.itself.lane
