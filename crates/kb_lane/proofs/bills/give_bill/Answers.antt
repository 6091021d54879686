use Rattle.std.proofs.Common.{Some}
use Rattle.kb_codec.specs.declared.command.Command.TheVariants as kinds
use Rattle.kb_codec.specs.declared.action.Action.TheVariants as actions
use Rattle.kb_lane.proofs.Going.{well_performs}
use Rattle.kb_lane.proofs.bills.give_bill.Goals as goal

pub returns-clause-well : goal.returns-clause-well
returns-clause-well g c =
    well_performs g.D.Disk.told.honest g.D.Disk.told.moment g.D.Disk.told.left_since
    g.D.Disk.told.fault_count c.args.lane.now
    c.perform.new.self c.args.day c.perform.ensures.itself.lanes c.perform.ensures.itself.lane
    (kinds.Act c.args.account c.args.key (actions.Bill (record { day = Some c.args.day })))
    c.perform.result
    (record {
      told = c.perform.ensures.reply;
      taken = c.perform.ensures.taken;
      untaken = c.perform.ensures.untaken;
      fault = c.perform.ensures.fault;
      stopped = c.perform.ensures.stopped;
      full = c.perform.ensures.full;
      gateway = c.perform.ensures.gateway;
      own = c.perform.ensures.own;
    }) c.perform.ensures.moments
