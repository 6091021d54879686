use Rattle.std.proofs.Common.{Some}
use Rattle.std.specs.FinMap.{find, entries}
use Rattle.kb_sharing.specs.Keys.{by_words}
use Rattle.kb_machine.proofs.KeptTexts.{text_found, told_again, told_refused}
use Rattle.kb_machine.proofs.texts.told_number.Goals as goal

pub returns-in-Ok-clause-again : goal.returns-in-Ok-clause-again
returns-in-Ok-clause-again c =
    told_again (find by_words c.args.key.now (entries c.args.keys.now)) c.in-Some.kept.now
    c.args.spelling.now c.in-Ok.number
    (text_found c.args.keys.now c.args.key.now (Some c.in-Some.kept.now) c.in-Some.ensures)
    c.in-Ok.ensures.same

pub returns-in-Err-clause-refused : goal.returns-in-Err-clause-refused
returns-in-Err-clause-refused c =
    told_refused (find by_words c.args.key.now (entries c.args.keys.now)) c.in-Some.kept.now
    c.args.spelling.now c.in-Err.fault
    (text_found c.args.keys.now c.args.key.now (Some c.in-Some.kept.now) c.in-Some.ensures)
    c.in-Err.ensures.refused
