-- The names and bundles are those of before.
use Rattle.std.proofs.Common.{◌≡◌, map, subst, sym, rules}
use Rattle.std.specs.Arc.{arc_value}
use Rattle.kb_timeline.specs.declared.subscription.Subscription.{Subscription}
use Rattle.kb_timeline.specs.TimelineEdits.{TimelineValue, IsTimeline, with_edit}
use Rattle.kb_timeline.proofs.KeptTimelines.{IsTimeline-with_edit}
use Rattle.kb_timeline.proofs.timeline.Timeline.with_edited.Goals as goal

pub invariant_of-result : goal.invariant_of-result
invariant_of-result c =
    let edited = with_edit c.args.self.now c.args.sub (λ (old : Subscription). c.args.subscription) in
    let value : TimelineValue =
    record {
      bundles = c.in_ok-bundles.bundles;
      subscriptions =
          map arc_value c.in_ok-subscriptions.subscriptions.items;
    } in
    let same : value ≡ edited = search rules in
    let sound = subst (λ (timeline : TimelineValue). IsTimeline timeline) c.self.view_is c.self.invariant in
    subst (λ (timeline : TimelineValue). IsTimeline timeline) (sym same)
    (IsTimeline-with_edit c.args.self.now c.args.sub c.args.subscription sound c.requires.there
    c.requires.same)
