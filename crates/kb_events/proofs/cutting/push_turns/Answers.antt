-- Each day is added, and stays.
use Rattle.std.proofs.Common.{◌+◌, drop, All, subst, sym}
use Rattle.std.proofs.lemmas.List.{drop_all}
use Rattle.std.proofs.lemmas.List.Elements.{All-cons, All-nil}
use Rattle.kb_events.specs.Private.Cuts.{HasDay}
use Rattle.kb_events.proofs.AmongDays.{KeepsDays-refl, KeepsDays-trans, HasDay-more}
use Rattle.kb_events.proofs.LeftMembers.{drop-member}
use Rattle.kb_events.proofs.cutting.push_turns.Goals as goal

pub loop-turn-preserved : goal.loop-turn-preserved
loop-turn-preserved c =
    let walk = c.loop-turn.invariant in
    let pushed = c.in_ok-push_day.ensures in
    let turn = c.turn-item.result in
    let has = subst (HasDay c.push_day.new.days.items) c.reach.ensures.value pushed.has in (
      KeepsDays-trans c.args.days.now.items c.loop-turn.days.items c.push_day.new.days.items walk.0
          pushed.keeps,
      (λ more keeps all.
          walk.1 more (KeepsDays-trans c.loop-turn.days.items c.push_day.new.days.items more pushed.keeps
          keeps)
          (subst (All (HasDay more)) (sym (drop-member c.args.turns.now c.loop-turn.turn-index turn
          c.loop-turn-test.true c.turn-item.is))
          (All-cons (HasDay more) turn (drop (c.loop-turn.turn-index + 1) c.args.turns.now)
          (HasDay-more c.push_day.new.days.items more turn keeps has) all))),
    )

pub returns-clause-has : goal.returns-clause-has
returns-clause-has c =
    let walk = c.loop-turn.invariant in
    let days = c.loop-turn.days.items in
    walk.1 days (KeepsDays-refl days)
    (subst (All (HasDay days)) (sym (drop_all c.loop-turn.turn-index c.args.turns.now c.loop-turn-test.false))
    (All-nil (HasDay days)))
