-- Each entry is added, and stays.
use Rattle.std.proofs.Common.{◌+◌, drop, All, subst, sym}
use Rattle.std.proofs.lemmas.List.{drop_all}
use Rattle.std.proofs.lemmas.List.Elements.{All-cons, All-nil}
use Rattle.kb_events.specs.Private.Cuts.{HasEntry}
use Rattle.kb_events.proofs.AmongDays.{KeepsDays-refl, KeepsDays-trans, HasEntry-more}
use Rattle.kb_events.proofs.LeftMembers.{drop-member}
use Rattle.kb_events.proofs.cutting.push_entries.Goals as goal

pub loop-entry-preserved : goal.loop-entry-preserved
loop-entry-preserved c =
    let walk = c.loop-entry.invariant in
    let pushed = c.in_ok-push_entry.ensures in
    let entry = c.entry-item.result in (
      KeepsDays-trans c.args.days.now.items c.loop-entry.days.items c.push_entry.new.days.items walk.0
          pushed.keeps,
      (λ more keeps all.
          walk.1 more (KeepsDays-trans c.loop-entry.days.items c.push_entry.new.days.items more pushed.keeps
          keeps)
          (subst (All (HasEntry more c.args.catalog.now))
          (sym (drop-member c.args.entries.now c.loop-entry.entry-index entry c.loop-entry-test.true
          c.entry-item.is))
          (All-cons (HasEntry more c.args.catalog.now) entry
          (drop (c.loop-entry.entry-index + 1) c.args.entries.now)
          (HasEntry-more c.push_entry.new.days.items more c.args.catalog.now entry keeps pushed.has) all))),
    )

pub returns-clause-has : goal.returns-clause-has
returns-clause-has c =
    let walk = c.loop-entry.invariant in
    let days = c.loop-entry.days.items in
    walk.1 days (KeepsDays-refl days)
    (subst (All (HasEntry days c.args.catalog.now)) (sym
    (drop_all c.loop-entry.entry-index c.args.entries.now c.loop-entry-test.false))
    (All-nil (HasEntry days c.args.catalog.now)))
