use Rattle.kb_lane.proofs.Within.{writes_past, writes_within, writes_on}
use Rattle.kb_lane.proofs.LookingUp.{done_takes}
use Rattle.kb_lane.proofs.lane.Lane.settle.Goals as goal

pub returns-clause-past : goal.returns-clause-past
returns-clause-past g c = writes_past g.D.Disk.told.honest g.D.Disk.told.moment g.D.Disk.told.left_since
    g.D.Disk.told.fault_count
    c.args.self.now c.accept_own.new.self _ c.accept_own.ensures.itself.lanes c.accept_own.ensures.itself.lane
    c.accept_own.ensures.moments c.accept_own.result c.accept_own.ensures.writes

pub returns-clause-within : goal.returns-clause-within
returns-clause-within g c = writes_within g.D.Disk.told.honest g.D.Disk.told.moment g.D.Disk.told.left_since
    g.D.Disk.told.fault_count
    c.args.self.now c.accept_own.new.self _ c.accept_own.ensures.itself.lanes c.accept_own.ensures.itself.lane
    c.accept_own.ensures.moments c.accept_own.result c.accept_own.ensures.writes

pub returns-clause-further : goal.returns-clause-further
returns-clause-further g c = writes_on g.D.Disk.told.fault_count c.args.self.now c.accept_own.new.self _
    c.accept_own.result
    c.accept_own.ensures.writes

pub returns-clause-runs : goal.returns-clause-runs
returns-clause-runs g c =
    λ done. (done_takes g.D.Disk.told.fault_count c.args.self.now c.accept_own.new.self _
    c.accept_own.result c.accept_own.ensures.writes done).running
