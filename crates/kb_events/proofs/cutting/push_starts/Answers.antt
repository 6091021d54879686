-- Each start is added, and stays.
use Rattle.std.proofs.Common.{◌+◌, ℕ, List, drop, map, Option, Some, IfSome, subst, sym}
use Rattle.std.proofs.lemmas.List.{drop_all}
use Rattle.std.proofs.lemmas.List.Elements.{All-cons, All-nil}
use Rattle.kb_catalog.specs.declared.phase.Phase.{Phase}
use Rattle.kb_align.specs.Phases.{starts_from, phase_starts}
use Rattle.kb_events.specs.Private.Cuts.{HasDay, HasStarts}
use Rattle.kb_events.proofs.AmongDays.{KeepsDays-refl, KeepsDays-trans, IfSome-more}
use Rattle.kb_events.proofs.LeftMembers.{drop-member}
use Rattle.kb_events.proofs.cutting.push_starts.Goals as goal

pub loop-phase-init : goal.loop-phase-init
unfolding phase_starts
loop-phase-init c = (
  KeepsDays-refl c.args.days.now.items,
  (λ more keeps all.
      subst (λ (first : ℕ). HasStarts more (starts_from (Some first)
      (map (λ (phase : Phase). phase.span) c.args.phases.now))) c.reach.ensures.value all),
)

pub loop-phase-preserved : goal.loop-phase-preserved
loop-phase-preserved c =
    let walk = c.loop-phase.invariant in
    let pushed = c.in_ok-push_start.ensures in
    let phase = c.phase-item.result in
    let left = drop-member c.args.phases.now c.loop-phase.phase-index phase c.loop-phase-test.true
    c.phase-item.is in (
      KeepsDays-trans c.args.days.now.items c.loop-phase.days.items c.push_start.new.days.items walk.0
          pushed.keeps,
      (λ more keeps all.
          walk.1 more (KeepsDays-trans c.loop-phase.days.items c.push_start.new.days.items more pushed.keeps
          keeps)
          (subst (λ (phases : List Phase). HasStarts more
          (starts_from c.loop-phase.start (map (λ (phase : Phase). phase.span) phases))) (sym left)
          (All-cons (λ (start : Option ℕ). IfSome start (HasDay more)) c.loop-phase.start _
          (IfSome-more c.push_start.new.days.items more c.loop-phase.start keeps pushed.has)
          (subst (λ (next : Option ℕ). HasStarts more (starts_from next
          (map (λ (phase : Phase). phase.span) (drop (c.loop-phase.phase-index + 1) c.args.phases.now))))
          c.next_start-start.ensures.value all)))),
    )

pub returns-clause-has : goal.returns-clause-has
returns-clause-has c =
    let walk = c.loop-phase.invariant in
    let days = c.loop-phase.days.items in
    walk.1 days (KeepsDays-refl days)
    (subst (λ (phases : List Phase). HasStarts days (starts_from c.loop-phase.start
    (map (λ (phase : Phase). phase.span) phases)))
    (sym (drop_all c.loop-phase.phase-index c.args.phases.now c.loop-phase-test.false))
    (All-nil (λ (start : Option ℕ). IfSome start (HasDay days))))
