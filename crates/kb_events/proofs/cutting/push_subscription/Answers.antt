-- The entries are added, and stay when the cancellation is added.
use Rattle.std.proofs.Common.{subst}
use Rattle.kb_events.specs.Private.Cuts.{HasEntryDays}
use Rattle.kb_events.proofs.AmongDays.{KeepsDays-trans, HasEntryDays-more}
use Rattle.kb_events.proofs.cutting.push_subscription.Goals as goal

pub returns : goal.returns
returns c =
    let entries = c.in_ok-push_entry_days.ensures in
    let end = c.in_ok-push_end.ensures in
    record {
      keeps = KeepsDays-trans c.args.days.now.items c.push_entry_days.new.days.items c.push_end.new.days.items
          entries.keeps end.keeps;
      has = (
        HasEntryDays-more c.push_entry_days.new.days.items c.push_end.new.days.items
            c.args.subscription.now.entries end.keeps
            (subst (HasEntryDays c.push_entry_days.new.days.items) c.as_slice.ensures.same entries.has),
        end.has,
      );
    }
