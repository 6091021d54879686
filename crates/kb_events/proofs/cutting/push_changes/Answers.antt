-- What was added stays when more is added.
use Rattle.std.proofs.Common.{All, subst, ap, List}
use Rattle.kb_catalog.specs.declared.version.Version.{Version}
use Rattle.kb_due.specs.Facts.{FactsValue}
use Rattle.kb_events.specs.Private.Cuts.{HasEntry, KeepsDays}
use Rattle.kb_events.proofs.AmongDays.{KeepsDays-trans, HasEntries-more, IfSome-more, HasLeadOf-more}
use Rattle.kb_events.proofs.cutting.push_changes.Goals as goal

pub returns : goal.returns
returns c =
    let one = c.in_ok-push_entries.ensures in
    let two = c.in_ok-push_end.ensures in
    let three = c.in_ok-push_lead_of.ensures in
    let four = c.in_ok-push_turns.ensures in
    let first = c.push_entries.new.days.items in
    let second = c.push_end.new.days.items in
    let third = c.push_lead_of.new.days.items in
    let last = c.push_turns.new.days.items in
    let from_third : KeepsDays third last = four.keeps in
    let from_second : KeepsDays second last = KeepsDays-trans second third last three.keeps four.keeps in
    let from_first : KeepsDays first last = KeepsDays-trans first second last two.keeps from_second in
    record {
      keeps = KeepsDays-trans c.args.days.now.items first last one.keeps from_first;
      has = record {
        entries = subst (All (HasEntry last c.args.facts.now.catalog)) c.as_slice.ensures.same
            (subst (λ (catalog : List Version). All (HasEntry last catalog) c.as_slice.result.now)
            (ap (λ (facts : FactsValue). facts.catalog) c.facts.view_is)
            (HasEntries-more first last c.facts.inside.catalog.now c.as_slice.result.now from_first one.has));
        cancel = IfSome-more second last c.args.subscription.now.cancel from_second two.has;
        lead = HasLeadOf-more third last c.args.facts.now c.args.subscription.now from_third three.has;
      };
      turned = four.has;
    }
