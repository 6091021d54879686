-- A run of fee cells has one day: the fee cell of a day begins on it, so the next day has another one or
-- none.
use Rattle.std.proofs.Common.{◌≡◌, ℕ, ◌+◌, inl, inr, List, [], ◌∷◌, All, arith}
use Rattle.std.proofs.lemmas.Bool.{cases_lt}
use Rattle.std.proofs.lemmas.List.Elements.{All-cons, All-nil}
use Rattle.kb_base.specs.Runs.{Stretch, IsStretch, AreRuns}
use Rattle.kb_due.specs.declared.cell.Cell.{Cell}
use Rattle.kb_due.specs.Facts.{FactsValue}
use Rattle.kb_due.specs.DueDays.{fee_on}
use Rattle.kb_due.proofs.DueCells.{fee_on-one_day}
use Rattle.kb_due.specs.CellStretches.{same_cell}

-- a stretch with one fee cell has one day
pub IsStretch-one_day : (facts : FactsValue) (sub billed day end : ℕ) (stretch : Stretch Cell)
    → IsStretch (fee_on facts sub billed) day end stretch
    → stretch.to ≡ stretch.from + 1
IsStretch-one_day facts sub billed day end stretch is =
    elim (cases_lt (stretch.from + 1) stretch.to) [
      | inl more ↦
          let here = fee_on-one_day facts sub billed stretch.from stretch.value
          (is.valued stretch.from (omega arith) is.some_day) in
          let next = fee_on-one_day facts sub billed (stretch.from + 1) stretch.value
          (is.valued (stretch.from + 1) (omega arith) more) in
          absurd (omega (arith, here.0, next.0))
      | inr one ↦ omega (arith, one, is.some_day)
    ]

-- and so has each of the longest ones
pub AreRuns-one_day : (facts : FactsValue) (sub billed day end : ℕ) (stretches : List (Stretch Cell))
    → AreRuns same_cell (fee_on facts sub billed) day end stretches
    → All (λ (stretch : Stretch Cell). stretch.to ≡ stretch.from + 1) stretches
AreRuns-one_day facts sub billed day end [] are =
    All-nil (λ (stretch : Stretch Cell). stretch.to ≡ stretch.from + 1)
AreRuns-one_day facts sub billed day end (first ∷ later) are =
    All-cons (λ (stretch : Stretch Cell). stretch.to ≡ stretch.from + 1) first later
    (IsStretch-one_day facts sub billed day end first are.0)
    (AreRuns-one_day facts sub billed first.to end later are.3)
