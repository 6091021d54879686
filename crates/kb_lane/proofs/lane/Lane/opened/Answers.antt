use Rattle.std.proofs.Common.{ap, sym, ◌∙◌, map, length, subst}
use Rattle.kb_gateway.specs.Told.{payments_asked}
use Rattle.kb_machine.specs.Machines.{no_machine}
use Rattle.kb_machine.specs.Histories.{replay, AreNewFrom}
use Rattle.kb_lane.specs.Asking.{asked_for}
use Rattle.kb_lane.proofs.Kept.{lane_opened}
use Rattle.kb_lane.proofs.lane.Lane.opened.Goals as goal

pub invariant_of-result : goal.invariant_of-result
invariant_of-result g c =
    let same = ap (λ log. log.history) c.opened.ensures ∙ c.into_parts-machine.ensures.history in
    lane_opened (payments_asked g.G.Gateway.told) c.into_parts-machine.result.0 c.opened.result _
    c.args.gateway _
    (c.into_parts-machine.ensures.machine ∙ ap replay (sym same))
    (subst (AreNewFrom no_machine) (sym same) c.into_parts-machine.ensures.fresh)
    (ap (λ log. log.opened) c.opened.ensures ∙ ap length (sym (ap (λ log. log.history) c.opened.ensures)))
    c.new.ensures.items (ap (map asked_for) c.new-2.ensures)
