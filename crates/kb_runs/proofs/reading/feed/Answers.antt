use Rattle.kb_runs.proofs.Among.{taken-cut, part-cut}
use Rattle.kb_runs.proofs.reading.feed.Goals as goal

pub returns-clause-err : goal.returns-clause-err
returns-clause-err g c =
    let taken = c.take_bytes-taken.ensures in
    part-cut g.M.LineMachine.machine _ _ _ _ _ _ _ _ _
    (taken-cut g.M.LineMachine.machine _ _ _ _ _ _ _ _ c.new-said.ensures.items taken.ok taken.err)
    c.as_slice.ensures.value c.in-Err.ensures.err
