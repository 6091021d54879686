use Rattle.kb_lane.specs.Lanes.{machine_of}
use Rattle.kb_make.proofs.Performed.{performed_refused, performed_sent}
use Rattle.kb_make.proofs.sending.perform.Goals as goal

pub returns-clause-sent : goal.returns-clause-sent
returns-clause-sent c =
    rw c.told_refused.ensures
    (performed_sent c.args.lane.now c.perform.new.self c.args.today c.args.command.now c.requires.idle
    c.perform.result
    c.perform.ensures.reply c.perform.ensures.taken c.perform.ensures.untaken)

pub returns-clause-refused : goal.returns-clause-refused
returns-clause-refused c =
    rw c.told_refused.ensures
    (performed_refused (machine_of c.args.lane.now) c.args.today c.args.command.now c.perform.result
    c.perform.ensures.reply)
