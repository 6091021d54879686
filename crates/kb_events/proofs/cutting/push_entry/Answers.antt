-- The phases are added, and stay when the day is added.
use Rattle.std.proofs.Common.{subst}
use Rattle.kb_events.specs.Private.Cuts.{HasDay}
use Rattle.kb_events.proofs.AmongDays.{KeepsDays-trans, HasPhases-more}
use Rattle.kb_events.proofs.cutting.push_entry.Goals as goal

pub returns : goal.returns
returns c =
    let phases = c.in_ok-push_phases.ensures in
    let day = c.in_ok-push_day.ensures in
    record {
      keeps = KeepsDays-trans c.args.days.now.items c.push_phases.new.days.items c.push_day.new.days.items
          phases.keeps day.keeps;
      has = (
        subst (HasDay c.push_day.new.days.items) c.reach.ensures.value day.has,
        HasPhases-more c.push_phases.new.days.items c.push_day.new.days.items c.args.catalog.now
            c.args.entry.now day.keeps phases.has,
      );
    }
