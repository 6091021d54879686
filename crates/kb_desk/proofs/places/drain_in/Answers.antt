use Rattle.kb_lane.specs.Drains.{Drains}
use Rattle.kb_desk.specs.Continuing.{Continues}
use Rattle.kb_desk.proofs.GoneOn.{goes_at}
use Rattle.kb_desk.proofs.places.drain_in.Goals as goal

pub returns-clause-drained : goal.returns-clause-drained
returns-clause-drained g c =
    goes_at (λ lane next. Drains g.D.Disk.told.fault_count g.G.Gateway.told
    c.args.today lane next c.drain.result
    × Continues g.D.Disk.told.honest g.D.Disk.told.moment g.D.Disk.told.left_since g.D.Disk.told.fault_count lane next)
    c.args.lanes.now.items c.args.place c.index_mut.result.now
    c.drain.new.lane c.requires.within c.index_mut.ensures.value (
      c.drain.ensures.drained,
      record {
        well = c.drain.ensures.well;
        itself = c.drain.ensures.itself;
      },
    )
