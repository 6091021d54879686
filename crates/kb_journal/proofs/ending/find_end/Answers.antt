use Rattle.kb_journal.proofs.OneMore.{none_before, one_more_before}
use Rattle.kb_journal.proofs.ending.find_end.Goals as goal

pub loop-rest-init : goal.loop-rest-init
loop-rest-init c = none_before c.args.bytes.now c.requires.some

pub loop-rest-preserved : goal.loop-rest-preserved
loop-rest-preserved c =
    one_more_before _ c.loop-rest.gate c.args.bytes.now c.in-Some.rest.now c.in-Some-first_record.record.now
    c.loop-rest.invariant c.in-Some.ensures.open c.in-Some-first_record.ensures.whole
    c.in-Some-first_record.ensures.sized c.in-Some-first_record.ensures.gate
