use Rattle.kb_make.specs.SeedCommands.{creation, bill}
use Rattle.kb_make.proofs.place.waiting_command.Goals as goal

pub returns-in-Creation-clause-sent : goal.returns-in-Creation-clause-sent
returns-in-Creation-clause-sent c =
    (creation c.args.account c.in-Creation.day, rw c.in-Creation.is, c.creation.ensures)

pub returns-in-Bill-clause-sent : goal.returns-in-Bill-clause-sent
returns-in-Bill-clause-sent c = (bill c.args.account c.in-Bill.day, rw c.in-Bill.is, c.bill.ensures)
