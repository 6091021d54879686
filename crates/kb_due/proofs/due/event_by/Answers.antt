-- Where the walk stops an event stands, and none does behind it.
use Rattle.std.proofs.Common.{◌≡◌, ℕ, Bool, true, IfSome, Option, refl, sym, ap, subst, ◌∙◌, arith}
use Rattle.std.proofs.lemmas.Bool.{eq-eqb}
use Rattle.kb_align.proofs.Searches.{last_day_on-is}
use Rattle.kb_due.specs.Governing.{Governing}
use Rattle.kb_due.specs.DueDays.{is_event}
use Rattle.kb_due.proofs.due.event_by.Goals as goal

pub returns-then-is_event : goal.returns-then-is_event
returns-then-is_event c =
    let test : ℕ → Bool = is_event c.args.facts.now c.args.subscription.now c.args.sub c.args.governing.now in
    let walk = c.loop-number.invariant in
    let same : c.unwrap.result ≡ c.loop-number.number =
    subst (λ (found : Option ℕ). IfSome found (λ (day : ℕ). day ≡ c.loop-number.number)) c.unwrap.ensures
    c.new.ensures.value in
    let stands = ap test (sym same) ∙ sym c.is_event.ensures ∙ c.if-is_event.true in
    sym (last_day_on-is test c.loop-number.number c.args.day walk.1 stands walk.2)

pub returns : goal.returns
returns c =
    let test : ℕ → Bool = is_event c.args.facts.now c.args.subscription.now c.args.sub c.args.governing.now in
    let walk = c.loop-number.invariant in
    let first : ℕ = c.number-first.result in
    let entry : first ≡ c.args.governing.now.entry.day = c.number-first.ensures.value
    ∙ ap (λ (governing : Governing). governing.entry.day) c.governing.view_is in
    let stands : test first ≡ true = rw (eq-eqb c.args.governing.now.entry.day first (sym entry)) refl in
    sym (last_day_on-is test first c.args.day (omega (arith, c.requires.begun, entry)) stands
    (λ (other : ℕ) later up_to. walk.2 other (omega (arith, later, c.loop-number-test.false)) up_to))
