use Rattle.std.proofs.Common.{refl}
use Rattle.kb_lane.proofs.Handled.{handles_front, front_well}
use Rattle.kb_lane.proofs.drains.handle.Goals as goal

pub returns-clause-well : goal.returns-clause-well
returns-clause-well g c =
    front_well g.D.Disk.told.fault_count g.G.Gateway.told c.args.today
    c.args.lane.now c.handle_next.new.self c.handle_next.result g.D.Disk.told.honest g.D.Disk.told.moment
    g.D.Disk.told.left_since c.handle_next.ensures.itself.lanes c.handle_next.ensures.itself.lane
    c.handle_next.ensures.moments c.args.lane.now.outbox
    (handles_front g.D.Disk.told.fault_count g.G.Gateway.told c.args.today
    c.args.lane.now c.handle_next.new.self c.handle_next.result c.args.lane.now.outbox refl
    c.handle_next.ensures.idle.1 c.handle_next.ensures.rests c.handle_next.ensures.looks
    c.handle_next.ensures.orders)
