-- Only the first day may have a fee.
use Rattle.std.proofs.Common.{◌≡◌, ◌<◌, ◌≤◌, ◌+◌, ℕ, Some, None, Option, IfSome, map, sym, subst, ap, ◌∙◌}
use Rattle.std.proofs.Common.{arith, rules}
use Rattle.std.proofs.lemmas.Result.{on_ok_weaker}
use Rattle.kb_days.specs.Calendar.{first_day, last_charged}
use Rattle.kb_due.specs.Facts.{FactsValue}
use Rattle.kb_due.specs.Governing.{governing_on}
use Rattle.kb_due.specs.CellStretches.{stretch_of}
use Rattle.kb_events.proofs.KeptUntil.{is_live_of-until}
use Rattle.kb_events.proofs.FeeRuns.{fees-late, fees-dead, fees-nothing, fees-governed}
use Rattle.kb_events.proofs.fee_pieces.push_fees.Goals as goal

pub returns-then-lt : goal.returns-then-lt
returns-then-lt c steady ends so_far =
    let late : c.args.billed < c.args.from = search rules in
    fees-late c.args.facts.now c.args.subscription.now c.args.from c.args.to steady c.requires.told
    c.args.billed first_day (map stretch_of c.args.found.now.items)
    c.requires.named c.requires.in_order so_far late

pub returns-then-not-is_alive : goal.returns-then-not-is_alive
returns-then-not-is_alive c steady ends so_far =
    let told : c.args.from ≤ last_charged = omega (arith, c.requires.in_order, c.requires.told) in
    let dead = is_live_of-until c.args.facts.now c.args.subscription.now c.args.end c.args.from told ends
    ∙ sym c.if-not-is_alive.ensures in
    fees-dead c.args.facts.now c.args.subscription.now c.args.from c.args.to steady c.requires.told
    c.args.billed first_day (map stretch_of c.args.found.now.items)
    c.requires.named c.requires.in_order so_far dead

pub returns-in_default : goal.returns-in_default
returns-in_default c steady ends so_far =
    let none =
    subst (λ (facts : FactsValue). governing_on facts.catalog c.args.subscription.now.entries c.args.from
    ≡ None) c.facts.view_is
    (sym c.governing_on.ensures.value ∙ c.in_default.is) in
    fees-nothing c.args.facts.now c.args.subscription.now c.args.from c.args.to steady c.requires.told
    c.args.billed first_day (map stretch_of c.args.found.now.items)
    c.requires.named c.requires.in_order so_far none

pub returns : goal.returns
returns c = on_ok_weaker c.push_run.result (λ pushed steady ends so_far.
    let told : c.args.from ≤ last_charged = omega (arith, c.requires.in_order, c.requires.told) in
    let live = is_live_of-until c.args.facts.now c.args.subscription.now c.args.end c.args.from told ends
    ∙ sym c.if-not-is_alive.ensures in
    let governs =
    subst (λ (facts : FactsValue). governing_on facts.catalog c.args.subscription.now.entries c.args.from
    ≡ Some c.in-Some.governing) c.facts.view_is
    (sym c.governing_on.ensures.value ∙ c.in-Some.is) in
    let past : c.args.from ≤ c.args.billed = search rules in
    let next : c.unwrap-next.result ≡ c.args.from + 1 =
    subst (λ (made : Option ℕ). IfSome made (λ (day : ℕ). day ≡ c.number.result + 1)) c.unwrap-next.ensures
    c.new.ensures.value
    ∙ ap (λ (day : ℕ). day + 1) c.number.ensures.value in
    pushed ∙ rw (next, c.fee_by.ensures.value)
    (fees-governed c.args.facts.now c.args.subscription.now c.args.from c.args.to steady c.requires.told
    c.args.billed first_day (map stretch_of c.args.found.now.items)
    c.requires.named c.requires.in_order so_far c.in-Some.governing c.in-Some.ensures.begun governs live
    past))
    c.push_run.ensures
