use Rattle.std.proofs.Common.{ap, sym, ◌∙◌, map, length, subst}
use Rattle.kb_gateway.specs.Told.{payments_asked}
use Rattle.kb_machine.specs.Machines.{no_machine}
use Rattle.kb_machine.specs.Histories.{replay, AreNewFrom}
use Rattle.kb_machine.proofs.Replays.{replay_none, fresh_none}
use Rattle.kb_lane.specs.Asking.{asked_for}
use Rattle.kb_lane.proofs.Kept.{lane_opened}
use Rattle.kb_lane.proofs.lane.Lane.create.Goals as goal

pub invariant_of-result : goal.invariant_of-result
invariant_of-result g c =
    let none = ap (λ log. log.history) c.in-Ok.ensures.made in
    lane_opened (payments_asked g.G.Gateway.told) c.new.result c.in-Ok.log _ c.args.gateway _
    (c.new.ensures ∙ sym (ap replay none ∙ replay_none)) (subst (AreNewFrom no_machine) (sym none) fresh_none)
    (ap (λ log. log.opened) c.in-Ok.ensures.made ∙ ap length (sym none))
    c.new-in-Ok.ensures.items (ap (map asked_for) c.new-in-Ok-2.ensures)
