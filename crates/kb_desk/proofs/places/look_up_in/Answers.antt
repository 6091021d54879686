use Rattle.kb_lane.specs.LookingUp.{LooksAllUp}
use Rattle.kb_desk.specs.Continuing.{Continues}
use Rattle.kb_desk.proofs.GoneOn.{goes_at}
use Rattle.kb_desk.proofs.places.look_up_in.Goals as goal

pub returns-clause-looked : goal.returns-clause-looked
returns-clause-looked g c =
    goes_at (λ lane next. LooksAllUp g.D.Disk.told.fault_count g.G.Gateway.told
    c.args.today lane next c.janitor.result
    × Continues g.D.Disk.told.honest g.D.Disk.told.moment g.D.Disk.told.left_since g.D.Disk.told.fault_count lane next)
    c.args.lanes.now.items c.args.place c.index_mut.result.now
    c.janitor.new.self c.requires.within c.index_mut.ensures.value (
      record {
        busy = c.janitor.ensures.busy;
        looked = c.janitor.ensures.looked;
        silent = c.janitor.ensures.silent;
        own = c.janitor.ensures.own;
      },
      record {
        well = c.janitor.ensures.well;
        itself = c.janitor.ensures.itself;
      },
    )
