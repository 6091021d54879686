use Rattle.kb_desk.specs.Continuing.{Continues}
use Rattle.kb_lane.specs.Replies.{Performs}
use Rattle.kb_lane.proofs.Going.{well_performs}
use Rattle.kb_desk.proofs.GoneOn.{goes_at}
use Rattle.kb_desk.proofs.places.perform_in.Goals as goal

pub returns-clause-performed : goal.returns-clause-performed
returns-clause-performed g c =
    let performs : Performs g.D.Disk.told.fault_count c.index_mut.result.now c.perform.new.self c.args.today
    c.args.command.now c.perform.result = record {
      told = c.perform.ensures.reply;
      taken = c.perform.ensures.taken;
      untaken = c.perform.ensures.untaken;
      fault = c.perform.ensures.fault;
      stopped = c.perform.ensures.stopped;
      full = c.perform.ensures.full;
      gateway = c.perform.ensures.gateway;
      own = c.perform.ensures.own;
    } in
    goes_at (λ lane next. Performs g.D.Disk.told.fault_count lane next c.args.today c.args.command.now
    c.perform.result
    × Continues g.D.Disk.told.honest g.D.Disk.told.moment g.D.Disk.told.left_since g.D.Disk.told.fault_count lane next)
    c.args.lanes.now.items c.args.place c.index_mut.result.now c.perform.new.self c.requires.within
    c.index_mut.ensures.value (
      performs,
      record {
        well = well_performs g.D.Disk.told.honest g.D.Disk.told.moment g.D.Disk.told.left_since g.D.Disk.told.fault_count
            c.index_mut.result.now c.perform.new.self c.args.today c.perform.ensures.itself.lanes
            c.perform.ensures.itself.lane c.args.command.now c.perform.result performs
            c.perform.ensures.moments;
        itself = c.perform.ensures.itself;
      },
    )
