-- A day that is kept leaves it to the days behind it.
use Rattle.std.proofs.Common.{◌≡◌, ◌+◌, ℕ, Bool, IfSome, Option, sym, ap, subst, ◌∙◌, arith}
use Rattle.kb_due.specs.Life.{is_kept_on}
use Rattle.kb_due.proofs.KeptDays.{list_all-next}
use Rattle.kb_due.proofs.life.is_kept_from.Goals as goal

pub loop-number-preserved : goal.loop-number-preserved
loop-number-preserved c =
    let test : ℕ → Bool = is_kept_on c.args.catalog.now c.args.lead.now c.args.addon.now in
    let same : c.unwrap.result ≡ c.loop-number.number =
    subst (λ (found : Option ℕ). IfSome found (λ (day : ℕ). day ≡ c.loop-number.number)) c.unwrap.ensures
    c.new.ensures.value in
    let kept = ap test (sym same) ∙ sym c.is_kept_on.ensures ∙ c.if-not-is_kept_on.false in
    sym (list_all-next test c.loop-number.number (c.args.day + 1)
    (omega (arith, c.loop-number-test.true, c.number-number-end.ensures.value)) kept)
    ∙ c.loop-number.invariant
