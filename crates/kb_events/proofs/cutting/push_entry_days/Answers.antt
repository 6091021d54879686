-- Each day is added, and stays.
use Rattle.std.proofs.Common.{◌+◌, drop, All, subst, sym}
use Rattle.std.proofs.lemmas.List.{drop_all}
use Rattle.std.proofs.lemmas.List.Elements.{All-cons, All-nil}
use Rattle.kb_timeline.specs.declared.entry.Entry.{Entry}
use Rattle.kb_events.specs.Private.Cuts.{HasDay}
use Rattle.kb_events.proofs.AmongDays.{KeepsDays-refl, KeepsDays-trans, HasDay-more}
use Rattle.kb_events.proofs.LeftMembers.{drop-member}
use Rattle.kb_events.proofs.cutting.push_entry_days.Goals as goal

pub loop-entry-preserved : goal.loop-entry-preserved
loop-entry-preserved c =
    let walk = c.loop-entry.invariant in
    let pushed = c.in_ok-push_day.ensures in
    let entry = c.entry-item.result in
    let has = subst (HasDay c.push_day.new.days.items) c.reach.ensures.value pushed.has in (
      KeepsDays-trans c.args.days.now.items c.loop-entry.days.items c.push_day.new.days.items walk.0
          pushed.keeps,
      (λ more keeps all.
          walk.1 more (KeepsDays-trans c.loop-entry.days.items c.push_day.new.days.items more pushed.keeps
          keeps)
          (subst (All (λ (entry : Entry). HasDay more entry.day))
          (sym (drop-member c.args.entries.now c.loop-entry.entry-index entry c.loop-entry-test.true
          c.entry-item.is))
          (All-cons (λ (entry : Entry). HasDay more entry.day) entry
          (drop (c.loop-entry.entry-index + 1) c.args.entries.now)
          (HasDay-more c.push_day.new.days.items more entry.day keeps has) all))),
    )

pub returns-clause-has : goal.returns-clause-has
returns-clause-has c =
    let walk = c.loop-entry.invariant in
    let days = c.loop-entry.days.items in
    walk.1 days (KeepsDays-refl days)
    (subst (All (λ (entry : Entry). HasDay days entry.day))
    (sym (drop_all c.loop-entry.entry-index c.args.entries.now c.loop-entry-test.false))
    (All-nil (λ (entry : Entry). HasDay days entry.day)))
