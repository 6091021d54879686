-- Each bundle of a timeline has a lead, and the search for it finds the first subscription.
use Rattle.std.proofs.Common.{◌≡◌, subst, rules}
use Rattle.kb_timeline.specs.TimelineEdits.{TimelineValue, IsTimeline, lead_of}
use Rattle.kb_timeline.proofs.Leads.{lead_of-first}
use Rattle.kb_timeline.proofs.timeline.Timeline.lead.Goals as goal

pub returns-clause-led : goal.returns-clause-led
returns-clause-led c = λ within.
    let place : c.first_of.result ≡ lead_of c.args.self.now c.args.bundle = search rules in
    let sound = subst (λ (timeline : TimelineValue). IsTimeline timeline) c.self.view_is c.self.invariant in
    rw place (sound.led c.args.bundle within)

pub returns-clause-first : goal.returns-clause-first
returns-clause-first c =
    let place : c.first_of.result ≡ lead_of c.args.self.now c.args.bundle = search rules in
    lead_of-first c.args.self.now c.args.bundle c.first_of.result place
