use Rattle.kb_lane.proofs.Standing.{held_all, stands_for}
use Rattle.kb_lane.proofs.log.Log.into_disk.Goals as goal

pub returns-clause-stands : goal.returns-clause-stands
returns-clause-stands g c = rw (← c.self.view_is)
    (stands_for g.D.Disk.told.honest g.D.Disk.told.seen g.D.Disk.told.images
    g.D.Disk.told.fault_count _ g.met.D.Disk.seen_is_image c.self.invariant.1)

pub returns-clause-caused : goal.returns-clause-caused
returns-clause-caused g c = rw (← c.self.view_is) c.self.invariant.1.caused

pub returns-clause-calm : goal.returns-clause-calm
returns-clause-calm g c = rw (← c.self.view_is) c.self.invariant.1.calm

pub returns-clause-durable : goal.returns-clause-durable
returns-clause-durable g c = λ honest running.
    held_all c.args.self ((rw c.self.view_is at c.self.invariant.1).held running honest)
