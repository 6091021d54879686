-- The edit is made of the subscription that is there.
use Rattle.std.proofs.Common.{◌≡◌, IfOk, subst}
use Rattle.kb_timeline.specs.SubscriptionEdits.{cancel_of}
use Rattle.kb_timeline.specs.TimelineEdits.{TimelineValue}
use Rattle.kb_timeline.proofs.EditedMembers.{with_edit-there}
use Rattle.kb_timeline.proofs.timeline.Timeline.cancel.Goals as goal

pub returns-clause-cancelled : goal.returns-clause-cancelled
returns-clause-cancelled c =
    let same =
    with_edit-there c.args.self.now c.args.sub (cancel_of c.args.day) c.subscription.result.now
    c.in_ok-subscription.subscription c.subscription.ensures.member c.in_ok-subscription.ensures.cancelled in
    subst
    (λ (value : TimelineValue). IfOk c.with_edited.result (λ (timeline : TimelineValue). timeline ≡ value))
    same c.with_edited.ensures.edited
