use Rattle.std.proofs.Common.{◌∙◌, ◌<◌, length, take, arith, refl, sym, ap}
use Rattle.kb_runs.proofs.Transferred.{under_way-start, under_way-more, under_way-input, under_way-end}
use Rattle.kb_runs.proofs.Transferred.{under_way-last, under_way-stopped, under_way-too_long}
use Rattle.kb_runs.proofs.reading.run_lines.Goals as goal

pub reads-init : goal.reads-init
reads-init g c = record {
  answered = under_way-start g.M.LineMachine.machine _ _ _ _ _ c.new-pending.ensures.items refl;
  input_calm = refl;
  output_calm = refl;
}

pub returns-in-Err-clause-err : goal.returns-in-Err-clause-err
returns-in-Err-clause-err g c =
    under_way-input g.M.LineMachine.machine _ _ _ _ _ _ _ _ _ c.reads.invariant.answered
    c.in-Err.ensures.bytes c.reads-test.true

pub returns-then-count-eq0-clause-ok : goal.returns-then-count-eq0-clause-ok
returns-then-count-eq0-clause-ok g c =
    let room : 0 < length c.read.new.buf = omega arith in
    under_way-end g.M.LineMachine.machine _ _ _ _ _ _ _ _ _ _ _ _ c.reads.invariant.answered
    c.in-Ok.ensures.bytes.0
    (ap (λ n. take n c.read.new.buf) c.if-count-eq0.true)
    (c.in-Ok.ensures.bytes.1 c.if-count-eq0.true room) c.in_default.ensures.ok c.reads-test.true

pub returns-in-Err-finish-clause-err : goal.returns-in-Err-finish-clause-err
returns-in-Err-finish-clause-err g c =
    under_way-last g.M.LineMachine.machine _ _ _ _ _ _ _ _ _ _ _ _ _ c.reads.invariant.answered
    c.in-Ok.ensures.bytes.0
    (ap (λ n. take n c.read.new.buf) c.if-count-eq0.true) c.in-Err-finish.ensures.err

pub returns-in-Err-feed-clause-err : goal.returns-in-Err-feed-clause-err
returns-in-Err-feed-clause-err g c =
    under_way-stopped g.M.LineMachine.machine _ _ _ _ _ _ _ _ _ _ _ _ _ _ c.reads.invariant.answered
    c.in-Ok.ensures.bytes.0 c.in-Err-feed.ensures.err

pub reads-preserved : goal.reads-preserved
reads-preserved g c = record {
  answered = under_way-more g.M.LineMachine.machine _ _ _ _ _ _ _ _ _ _ _ _ _ _ c.reads.invariant.answered
      c.in-Ok.ensures.bytes.0 (sym c.in-Ok.ensures.count.1) c.in_default-feed.ensures.ok;
  input_calm = c.in-Ok.ensures.calm ∙ c.reads.invariant.input_calm;
  output_calm = c.in_default-feed.ensures.calm (λ e. absurd (cc)) ∙ c.reads.invariant.output_calm;
}

pub returns-clause-err : goal.returns-clause-err
returns-clause-err g c =
    under_way-too_long g.M.LineMachine.machine _ _ _ _ _ _ _ _ c.reads.invariant.answered c.reads-test.false
