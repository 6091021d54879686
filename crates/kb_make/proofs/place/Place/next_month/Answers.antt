use Rattle.kb_make.proofs.Sendings.{sends_bill, sends_choice}
use Rattle.kb_make.proofs.place.Place.next_month.Goals as goal

pub returns-in-None-clause-sent : goal.returns-in-None-clause-sent
returns-in-None-clause-sent c =
    rw c.bill.ensures
    (sends_bill c.args.self.now c.requires.nothing c.draw.new.self c.first_of_month-day.result c.args.key
    c.requires.left c.draw.ensures.next c.first_of_month-day.ensures.value
    (rw c.draw.ensures.value at c.in-None.ensures.chosen))

pub returns-in-Some-clause-sent : goal.returns-in-Some-clause-sent
returns-in-Some-clause-sent c =
    sends_choice c.args.self.now c.requires.nothing c.draw.new.self c.first_of_month-day.result c.args.key
    c.in-Some.command c.requires.left c.draw.ensures.next c.first_of_month-day.ensures.value
    (rw c.draw.ensures.value at c.in-Some.ensures.chosen)
