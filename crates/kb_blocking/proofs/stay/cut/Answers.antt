use Rattle.std.proofs.lemmas.List.Edits.{map_over_more}
use Rattle.kb_blocking.specs.Private.Stays.{cut_by}
use Rattle.kb_blocking.proofs.stay.cut.Goals as goal

pub loop-stay-preserved : goal.loop-stay-preserved
loop-stay-preserved c =
    rw (c.end_by-stay.ensures, ← c.stay-item.is)
    (map_over_more (cut_by c.args.state.now) c.args.stays.now c.loop-stay.stay-items c.loop-stay.stay-index
    c.stay-item.result
    c.loop-stay-test.true c.loop-stay.invariant c.stay-item.is)
