-- A timeline with a subscription of a new name more.
use Rattle.std.proofs.Common.{◌≡◌, None, map, subst, sym, arith}
use Rattle.std.specs.Arc.{arc_value}
use Rattle.std.proofs.lemmas.Grind.{common_steps}
use Rattle.kb_timeline.specs.TimelineEdits.{TimelineValue, IsTimeline, created, create_fault}
use Rattle.kb_timeline.proofs.KeptTimelines.{IsTimeline-created}
use Rattle.kb_timeline.proofs.timeline.Timeline.create.Goals as goal

pub invariant_of-result : goal.invariant_of-result
invariant_of-result c =
    let longer = created c.args.self.now c.args.bundle c.args.name c.args.addon c.args.first in
    let value : TimelineValue =
    record {
      bundles = c.in_ok-bundles.bundles;
      subscriptions =
          map arc_value c.in_ok-subscriptions.subscriptions.items;
    } in
    let same : value ≡ longer = grind (arith, common_steps) in
    let none : create_fault c.args.self.now c.args.name ≡ None = grind (arith, common_steps) in
    let sound = subst (λ (timeline : TimelineValue). IsTimeline timeline) c.self.view_is c.self.invariant in
    subst (λ (timeline : TimelineValue). IsTimeline timeline) (sym same)
    (IsTimeline-created c.args.self.now c.args.bundle c.args.name c.args.addon c.args.first sound none)
