use Rattle.std.proofs.Common.{◌≡◌, ◌≤◌, ◌-◌, arith, sym, ◌∙◌}
use Rattle.kb_apply.specs.LaneRuns.{outside_of}
use Rattle.kb_apply.proofs.LaneLoops.{text_ends, text_goes_on, text_last}
use Rattle.kb_apply.proofs.lanes.Lanes.perform_on_all.Goals as goal

pub loop-place-preserved : goal.loop-place-preserved
loop-place-preserved g c = (
  λ new reply later. c.loop-place.invariant.0 new reply (text_goes_on
      (outside_of g.D.Disk.told g.G.Gateway.told g.C.Clock.day)
      c.args.today c.loop-place.place (c.count-last.result - 1) c.args.command.now c.loop-place.self
      c.loop-place-test.true c.perform_at-reply.new.self c.perform_at-reply.result
      c.perform_at-reply.ensures.performed (sym c.if-not-is_taken_text.ensures) new reply later),
  c.perform_at-reply.ensures.count ∙ c.loop-place.invariant.1,
)

pub returns-then-not-is_taken_text-clause-performed : goal.returns-then-not-is_taken_text-clause-performed
returns-then-not-is_taken_text-clause-performed g c =
    rw (← c.count-last.ensures.count) (c.loop-place.invariant.0 c.perform_at-reply.new.self
    c.perform_at-reply.result
    (text_ends (outside_of g.D.Disk.told
    g.G.Gateway.told g.C.Clock.day)
    c.args.today c.loop-place.place (c.count-last.result - 1) c.args.command.now c.loop-place.self
    c.loop-place-test.true c.perform_at-reply.new.self c.perform_at-reply.result
    c.perform_at-reply.ensures.performed (sym c.if-not-is_taken_text.ensures)))

pub returns-clause-performed : goal.returns-clause-performed
returns-clause-performed g c =
    let end : c.count-last.result - 1 ≤ c.loop-place.place = omega (arith, c.loop-place-test.false) in
    let there : c.loop-place.place ≡ c.count-last.result - 1 =
    omega (arith, end, c.loop-place.auto.place-end) in
    rw (← c.count-last.ensures.count) (c.loop-place.invariant.0 c.perform_at.new.self c.perform_at.result
    (text_last (outside_of g.D.Disk.told
    g.G.Gateway.told g.C.Clock.day)
    c.args.today c.loop-place.place (c.count-last.result - 1) c.args.command.now c.loop-place.self end
    c.perform_at.new.self c.perform_at.result (rw there c.perform_at.ensures.performed)))
