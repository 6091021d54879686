-- A flag that doesn't turn stays as it is.
use Rattle.std.proofs.Common.{◌≡◌, ℕ, zero, suc, ◌-◌, ◌<◌, ◌≤◌, Bool, true, false, List, inl, inr, refl, sym}
use Rattle.std.proofs.Common.{ap, ◌∙◌, arith}
use Rattle.std.proofs.lemmas.Bool.{cases_lt}
use Rattle.kb_blocking.specs.declared.state.Flag.{Flag}
use Rattle.kb_blocking.specs.declared.state.BlockState.{BlockState}
use Rattle.kb_blocking.specs.declared.state.Chain.{Chain}
use Rattle.kb_blocking.specs.Blocking.{is_on, differ, turns}

-- two truths that don't differ are one
differ-false : (one other : Bool) → differ one other ≡ false → one ≡ other
differ-false true true alike = refl
differ-false true false alike = alike
differ-false false true alike = sym alike
differ-false false false alike = refl

-- a flag that doesn't turn on a day is what it is on the day before
is_on-kept : (states : List BlockState) (chain : Chain) (flag : Flag) (before : ℕ)
    → turns states chain flag (suc before) ≡ false
    → is_on states chain flag (suc before) ≡ is_on states chain flag before
is_on-kept states chain flag before quiet =
    let same_day : suc before - 1 ≡ before = omega arith in
    differ-false (is_on states chain flag (suc before)) (is_on states chain flag (suc before - 1)) quiet
    ∙ ap (is_on states chain flag) same_day

-- a flag that turns on no day after one is on a later day what it is on that one
pub is_on-steady : (states : List BlockState) (chain : Chain) (flag : Flag) (d e : ℕ) → d ≤ e
    → ((day : ℕ) → d < day → day ≤ e → turns states chain flag day ≡ false)
    → is_on states chain flag e ≡ is_on states chain flag d
is_on-steady states chain flag d zero order quiet =
    let same : zero ≡ d = omega arith in
    ap (is_on states chain flag) same
is_on-steady states chain flag d (suc before) order quiet =
    elim (cases_lt d (suc before)) [
      | inl earlier ↦
          is_on-kept states chain flag before (quiet (suc before) earlier (omega arith))
          ∙ is_on-steady states chain flag d before (omega arith)
          (λ day after up_to. quiet day after (omega arith))
      | inr not_earlier ↦ let same : suc before ≡ d = omega arith in ap (is_on states chain flag) same
    ]
