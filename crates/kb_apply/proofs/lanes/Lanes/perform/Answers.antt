use Rattle.std.proofs.Common.{length, ap, subst, ◌∙◌}
use Rattle.kb_desk.specs.Lanes.{lane_of}
use Rattle.kb_codec.specs.Senders.{is_text, account_of}
use Rattle.kb_apply.specs.LaneRuns.{outside_of, PerformsAt}
use Rattle.kb_apply.proofs.Accounts.{no_text}
use Rattle.kb_apply.proofs.lanes.Lanes.perform.Goals as goal

pub returns-in-Some-clause-served : goal.returns-in-Some-clause-served
returns-in-Some-clause-served g c =
    let told = no_text (is_text c.args.command.now) (account_of c.args.command.now) c.in-Some.account
    c.in-Some.ensures in
    rw told.0 (subst (λ place. PerformsAt (outside_of g.D.Disk.told g.G.Gateway.told g.C.Clock.day)
    c.args.today c.args.command.now place c.args.self.now c.perform_at.new.self c.perform_at.result)
    ((rw c.count-count.ensures.count at c.place_of-place.ensures.place)
    ∙ ap (λ account. lane_of account (length c.args.self.now.lanes)) told.1) c.perform_at.ensures.performed)
