use Rattle.std.proofs.Common.{Some, None, sym, ◌∙◌, arith}
use Rattle.kb_align.proofs.Starts.{last_begun-first, last_begun-next, last_begun-all}
use Rattle.kb_align.proofs.phases.phase_at.Goals as goal
use Rattle.kb_align.proofs.phases.phase_at.Goals.{in-Some, in_default}

pub loop-place-init : goal.loop-place-init
loop-place-init c =
    rw (c.reach.ensures.value, c.reach-2.ensures.value)
    (last_begun-first c.args.anchor c.args.spans.now c.args.day c.requires.some_phase c.requires.begun)

pub loop-place-preserved : goal.loop-place-preserved
loop-place-preserved c =
    let walk = c.loop-place in
    let span = c.index-spans-place in
    let next =
    last_begun-next c.args.day (Some walk.last) walk.place walk.start c.args.spans.now span.result in
    rw c.next_start-start.ensures.value
    (elim c.match-begun_phase.branch [
      | in-Some w ↦
          rw w.last-is
          (sym (next (Some w.in-Some.begun) c.loop-place-test.true span.is w.in-Some.ensures)
          ∙ walk.invariant)
      | in_default w ↦
          rw w.last-is
          (sym (next None c.loop-place-test.true span.is (sym w.in_default.is ∙ c.begun_phase.ensures))
          ∙ walk.invariant)
    ])

pub returns : goal.returns
returns c =
    let walk = c.loop-place in
    record {
      phase =
          sym walk.invariant
          ∙ last_begun-all c.args.day (Some walk.last) walk.place walk.start c.args.spans.now
          (omega (arith, c.loop-place-test.false));
    }
