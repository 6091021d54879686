use Rattle.std.proofs.Common.{ap, ◌∙◌}
use Rattle.kb_gateway.specs.Told.{payments_asked}
use Rattle.kb_machine.specs.Histories.{replay}
use Rattle.kb_machine.specs.Plans.{changed, change_reply}
use Rattle.kb_lane.proofs.Kept.{lane_grows}
use Rattle.kb_lane.proofs.lane.Lane.take_in.Goals as goal

pub invariant_of-self-in-Ok-append : goal.invariant_of-self-in-Ok-append
invariant_of-self-in-Ok-append g c =
    lane_grows (payments_asked g.G.Gateway.told) c.self.inside.machine _ c.append.new.self c.self.invariant
    c.in-Ok-append.ensures.same.0 c.args.today c.args.command.now (change_reply c.args.change)
    (changed (replay c.self.inside.log.history) c.args.change) _ _
    (rw (← c.self.view_is) at c.requires.planned)
    (c.commit.ensures.machine ∙ ap (λ machine. changed machine c.args.change) c.self.invariant.replayed)
    c.in-Ok.ensures.dated.1 c.in-Ok-append.ensures.few (rw (← c.self.view_is) at c.requires.free)
    c.in-Ok-append.ensures.outcome.2
    (rw (← c.reserve.ensures.items, ← c.in-Ok-ask_of.ensures, ← c.check_of-check.ensures)
    c.push_works.ensures)
