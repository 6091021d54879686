-- The days between have the cells of their periods, or none.
use Rattle.std.proofs.Common.{◌≡◌, ◌<◌, ◌≤◌, Some, None, map, sym, subst, ◌∙◌, arith}
use Rattle.std.proofs.lemmas.Result.{on_ok_weaker}
use Rattle.kb_days.specs.Calendar.{first_day, last_charged}
use Rattle.kb_due.specs.Facts.{FactsValue}
use Rattle.kb_due.specs.Governing.{governing_on}
use Rattle.kb_due.specs.DueDays.{event_by, due_of}
use Rattle.kb_due.specs.CellStretches.{stretch_of}
use Rattle.kb_events.proofs.KeptUntil.{is_live_of-until}
use Rattle.kb_events.proofs.LastEvents.{event_by-latest}
use Rattle.kb_events.proofs.DueRuns.{runs-blocked, runs-dead, runs-nothing, runs-undue, due_of-begun}
use Rattle.kb_events.proofs.due_pieces.push_between.Goals as goal

pub returns-then-standing-clause-value : goal.returns-then-standing-clause-value
returns-then-standing-clause-value c sub quiet stood ends so_far =
    runs-blocked c.args.facts.now c.args.subscription.now sub c.args.standing.now.day c.args.to quiet
    c.requires.told c.args.billed first_day (map stretch_of c.args.found.now.items)
    c.requires.named c.requires.in_order so_far (stood.on ∙ c.if-standing.true)

pub returns-then-not-is_alive-clause-value : goal.returns-then-not-is_alive-clause-value
returns-then-not-is_alive-clause-value c sub quiet stood ends so_far =
    let told : c.args.standing.now.day ≤ last_charged = omega (arith, c.requires.in_order, c.requires.told) in
    let dead = is_live_of-until c.args.facts.now c.args.subscription.now c.args.end c.args.standing.now.day
    told ends ∙ sym c.if-not-is_alive.ensures in
    runs-dead c.args.facts.now c.args.subscription.now sub c.args.standing.now.day c.args.to quiet
    c.requires.told c.args.billed first_day (map stretch_of c.args.found.now.items)
    c.requires.named c.requires.in_order so_far dead

pub returns-in_default-clause-value : goal.returns-in_default-clause-value
returns-in_default-clause-value c sub quiet stood ends so_far =
    let none =
    subst (λ (facts : FactsValue). governing_on facts.catalog c.args.subscription.now.entries
    c.args.standing.now.day ≡ None) c.facts.view_is
    (sym c.governing_on.ensures.value ∙ c.in_default.is) in
    runs-nothing c.args.facts.now c.args.subscription.now sub c.args.standing.now.day c.args.to quiet
    c.requires.told c.args.billed first_day (map stretch_of c.args.found.now.items)
    c.requires.named c.requires.in_order so_far none

pub returns-then-number-last_event-clause-value : goal.returns-then-number-last_event-clause-value
returns-then-number-last_event-clause-value c sub quiet stood ends so_far =
    let told : c.args.standing.now.day ≤ last_charged = omega (arith, c.requires.in_order, c.requires.told) in
    let live = is_live_of-until c.args.facts.now c.args.subscription.now c.args.end c.args.standing.now.day
    told ends ∙ sym c.if-not-is_alive.ensures in
    let governs =
    subst (λ (facts : FactsValue). governing_on facts.catalog c.args.subscription.now.entries
    c.args.standing.now.day ≡ Some c.in-Some.governing) c.facts.view_is
    (sym c.governing_on.ensures.value ∙ c.in-Some.is) in
    let event =
    event_by-latest c.args.facts.now c.args.subscription.now sub c.in-Some.governing c.args.standing.now.day
    c.args.standing.now.blocked
    c.args.standing.now.turn c.last_event.result c.in-Some.ensures.begun stood c.last_event.ensures.entry
    c.last_event.ensures.phase
    c.last_event.ensures.turn c.last_event.ensures.some in
    let late : c.args.billed < event_by c.args.facts.now c.args.subscription.now sub c.in-Some.governing
    c.args.standing.now.day = omega (arith, event, c.if-number-last_event.true, c.number.ensures.value) in
    runs-undue c.args.facts.now c.args.subscription.now sub c.args.standing.now.day c.args.to quiet
    c.requires.told c.args.billed first_day (map stretch_of c.args.found.now.items)
    c.requires.named c.requires.in_order so_far c.in-Some.governing c.in-Some.ensures.begun governs live
    (stood.on ∙ c.if-standing.false) late

pub returns-clause-value : goal.returns-clause-value
returns-clause-value c = on_ok_weaker c.push_periods.result (λ periods sub quiet stood ends so_far.
    let told : c.args.standing.now.day ≤ last_charged = omega (arith, c.requires.in_order, c.requires.told) in
    let live = is_live_of-until c.args.facts.now c.args.subscription.now c.args.end c.args.standing.now.day
    told ends ∙ sym c.if-not-is_alive.ensures in
    let governs =
    subst (λ (facts : FactsValue). governing_on facts.catalog c.args.subscription.now.entries
    c.args.standing.now.day ≡ Some c.in-Some.governing) c.facts.view_is
    (sym c.governing_on.ensures.value ∙ c.in-Some.is) in
    let event =
    event_by-latest c.args.facts.now c.args.subscription.now sub c.in-Some.governing c.args.standing.now.day
    c.args.standing.now.blocked
    c.args.standing.now.turn c.last_event.result c.in-Some.ensures.begun stood c.last_event.ensures.entry
    c.last_event.ensures.phase
    c.last_event.ensures.turn c.last_event.ensures.some in
    let past : event_by c.args.facts.now c.args.subscription.now sub c.in-Some.governing
    c.args.standing.now.day ≤ c.args.billed =
    omega (arith, event, c.if-number-last_event.false, c.number.ensures.value) in
    periods (due_of c.args.facts.now c.args.subscription.now sub c.args.billed) first_day c.requires.named
    (due_of-begun c.args.facts.now c.args.subscription.now sub c.args.standing.now.day c.args.to quiet
    c.requires.told c.args.billed c.in-Some.governing
    c.in-Some.ensures.begun governs live (stood.on ∙ c.if-standing.false) past) so_far)
    c.push_periods.ensures.value
