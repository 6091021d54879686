-- The edit is made of the subscription that is there.
use Rattle.std.proofs.Common.{◌≡◌, IfOk, subst}
use Rattle.kb_timeline.specs.SubscriptionEdits.{change_of}
use Rattle.kb_timeline.specs.TimelineEdits.{TimelineValue}
use Rattle.kb_timeline.proofs.EditedMembers.{with_edit-there}
use Rattle.kb_timeline.proofs.timeline.Timeline.change.Goals as goal

pub returns-clause-changed : goal.returns-clause-changed
returns-clause-changed c =
    let same =
    with_edit-there c.args.self.now c.args.sub (change_of c.args.entry) c.subscription.result.now
    c.in_ok-subscription.subscription c.subscription.ensures.member c.in_ok-subscription.ensures.changed in
    subst
    (λ (value : TimelineValue). IfOk c.with_edited.result (λ (timeline : TimelineValue). timeline ≡ value))
    same c.with_edited.ensures.edited
