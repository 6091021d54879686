-- How the billing flag stands on a day follows from how it stood on an earlier one.
use Rattle.std.proofs.Common.{◌≡◌, ℕ, ◌-◌, ◌<◌, ◌≤◌, ◌⊎◌, inl, inr, Bool, true, false, not, nat_eq, List}
use Rattle.std.proofs.Common.{Contains, refl, sym, ap, subst, ◌∙◌, arith}
use Rattle.std.proofs.lemmas.Bool.{cases_lt, eqb-true, eqb-false}
use Rattle.kb_days.specs.Calendar.{first_day}
use Rattle.kb_blocking.specs.declared.state.BlockState.{BlockState}
use Rattle.kb_blocking.specs.declared.state.Chain.{Chain}
use Rattle.kb_blocking.specs.declared.state.Flag.TheVariants.{Billing}
use Rattle.kb_blocking.specs.Blocking.{is_on, differ, turns}
use Rattle.kb_events.specs.Private.Standing.{AreTurns, IsStanding, KeepsFlag}
use Rattle.kb_events.proofs.SteadyFlags.{is_on-steady}

-- two truths that differ are each the other's contrary
differ-true : (one other : Bool) → differ one other ≡ true → one ≡ not other
differ-true true other differs = sym differs
differ-true false other differs = ap not (sym differs)

module _ (states : List BlockState) (chain : Chain) (turning : List ℕ) (are : AreTurns states chain turning)
    (from to : ℕ) (named : first_day ≤ from) (later : from < to)
    (keeps : KeepsFlag states chain from to) where
  -- on the day before the flag is as it was
  is_on-before : is_on states chain Billing (to - 1) ≡ is_on states chain Billing from
  is_on-before = is_on-steady states chain Billing from (to - 1) (omega (arith, later))
      (λ day after up_to. keeps day after (omega (arith, up_to, later)))

  -- so where it turns on the day it is contrary
  is_on-turned : turns states chain Billing to ≡ true
      → is_on states chain Billing to ≡ not (is_on states chain Billing from)
  is_on-turned turned = differ-true (is_on states chain Billing to) (is_on states chain Billing (to - 1))
      turned ∙ ap not is_on-before

  -- and else the same
  is_on-kept : turns states chain Billing to ≡ false
      → is_on states chain Billing to ≡ is_on states chain Billing from
  is_on-kept kept =
      is_on-steady states chain Billing from to (omega (arith, later)) (λ day after up_to.
      elim (cases_lt day to) [
        | inl before ↦ keeps day after before
        | inr at ↦ let same : to ≡ day =
            omega (arith, at, up_to) in subst (λ (other : ℕ). turns states chain Billing other ≡ false) same
            kept
      ])

  -- a day that isn't among those on which it turns is none
  not_turned : (other : ℕ) → (Contains turning other → ⊥) → turns states chain Billing other ≡ false
  not_turned other none = by_test (turns states chain Billing other) refl
    where
      by_test : (is : Bool) → turns states chain Billing other ≡ is → turns states chain Billing other ≡ false
      by_test false fails = fails
      by_test true passes = absurd (none ((are other).1 passes))

  -- the last turn up to the day tells how the flag stands on it
  pub IsStanding-next : (blocked : Bool) (before turn : ℕ) → IsStanding states chain from blocked before
      → turn ≤ to → ((turn ≡ first_day) ⊎ Contains turning turn)
      → ((other : ℕ) → Contains turning other → other ≤ to → other ≤ turn)
      → IsStanding states chain to (differ (nat_eq turn to) blocked) turn
  IsStanding-next blocked before turn stood past some last = record {
    on = by_turn (nat_eq turn to) refl;
    past = past;
    turned = elim some [ inl first ↦ inl first | inr among ↦ inr ((are turn).0 among) ];
    quiet = λ other after up_to. not_turned other (λ among. let low = last other among up_to in absurd
        (omega (arith, low, after)));
  }
    where
      by_turn : (here : Bool) → nat_eq turn to ≡ here → is_on states chain Billing to ≡ differ here blocked
      by_turn true is =
          let same : turn ≡ to = eqb-true turn to is in
          let among : Contains turning turn =
          elim some [
            | inl first ↦ absurd (omega (arith, first, same, named, later))
            | inr among ↦
                among
          ] in
          let turned : turns states chain Billing to
          ≡ true = subst (λ (day : ℕ). turns states chain Billing day ≡ true) same ((are turn).0 among) in
          is_on-turned turned ∙ ap not stood.on
      by_turn false is =
          let kept = not_turned to (λ among. let low = last to among (omega arith) in eqb-false turn to is
          (omega (arith, low, past))) in
          is_on-kept kept ∙ stood.on
