use Rattle.std.proofs.Common.{◌++◌}
use Rattle.kb_runs.proofs.Among.{among-byte-at, more-byte, all-bytes, said-more}
use Rattle.kb_runs.proofs.taking.take_bytes.Goals as goal

pub returns-in-Err-clause-err : goal.returns-in-Err-clause-err
returns-in-Err-clause-err g c =
    let so_far = c.loop-byte.invariant in
    let left = c.in-Err.ensures.err in (
      so_far.0 ++ left.0,
      said-more c.args.said.now.items so_far.0 left.0 c.loop-byte.said.items c.take_byte.new.said.items
          so_far.1 left.1,
      among-byte-at g.M.LineMachine.machine _ _ _ _ _ _ _ _ _ _ _ c.loop-byte-test.true so_far.2 left.2
          left.3,
    )

pub loop-byte-preserved : goal.loop-byte-preserved
loop-byte-preserved g c =
    let so_far = c.loop-byte.invariant in
    let next = c.in_default.ensures.ok in (
      so_far.0 ++ next.0,
      said-more c.args.said.now.items so_far.0 next.0 c.loop-byte.said.items c.take_byte.new.said.items
          so_far.1 next.1,
      more-byte g.M.LineMachine.machine _ _ _ _ _ _ _ _ _ _ c.loop-byte-test.true so_far.2 next.2,
    )

pub returns-clause-ok : goal.returns-clause-ok
returns-clause-ok g c =
    let so_far = c.loop-byte.invariant in
    (so_far.0, so_far.1, all-bytes g.M.LineMachine.machine _ _ _ _ _ _ _ c.loop-byte-test.false so_far.2)
