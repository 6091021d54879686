-- Pieces and fees lie inside their cells.
use Rattle.std.proofs.Common.{ℕ, ◌-◌, ◌&&◌, ◌==◌, Bool, List, [], ◌∷◌, All, Some, IfOk, arith}
use Rattle.std.proofs.lemmas.Bool.{cond_both}
use Rattle.std.specs.declared.result.Result.{Result}
use Rattle.std.specs.declared.result.Result.TheVariants.{Ok, Err}
use Rattle.std.proofs.lemmas.List.Elements.{All-nil, All-cons, All-head, All-tail}
use Rattle.kb_base.specs.Runs.{Stretch, AreRuns}
use Rattle.kb_due.specs.declared.cell.Cell.{Cell}
use Rattle.kb_due.specs.Facts.{FactsValue}
use Rattle.kb_due.specs.DueDays.{due_on, fee_on}
use Rattle.kb_due.proofs.DueCells.{due_on-has_day, fee_on-one_day}
use Rattle.kb_due.specs.CellStretches.{same_cell, IsInCell}
use Rattle.kb_events.proofs.FeesOfOneDay.{IsStretch-one_day}
use Rattle.kb_base.specs.Intervals.{push_stretch, push_run}
use Rattle.kb_events.specs.Private.Shorts.{IsShort, AreShort}

-- what two clauses say of a result
pub IfOk-both : {T E : Type 0} (result : Result T E) (P Q : T → Type 0) → IfOk result P → IfOk result Q
    → IfOk result (λ it. P it × Q it)
IfOk-both (Ok it) P Q one other = (one, other)
IfOk-both (Err fault) P Q one other = tt

-- no stretches are short
pub AreShort-none : AreShort []
AreShort-none = All-nil (λ (stretch : Stretch Cell). IsShort stretch.value)

-- one more that is short
AreShort-cons : (first : Stretch Cell) (later : List (Stretch Cell)) → IsShort first.value → AreShort later
    → AreShort (first ∷ later)
AreShort-cons first later here rest =
    All-cons (λ (stretch : Stretch Cell). IsShort stretch.value) first later here rest

-- a stretch behind short ones, whether it makes the last one longer or not
push_stretch-short : (same : Cell → Cell → Bool) (found : List (Stretch Cell)) (next : Stretch Cell)
    → AreShort found → IsShort next.value
    → AreShort (push_stretch same found next)
push_stretch-short same [] next so_far short = AreShort-cons next [] short AreShort-none
push_stretch-short same (last ∷ []) next so_far short =
    let here = All-head (λ (stretch : Stretch Cell). IsShort stretch.value) last [] so_far in
    cond_both ((last.to == next.from) && same last.value next.value)
    (record { from = last.from; to = next.to; value = last.value } ∷ [])
    (last ∷ next ∷ []) AreShort
    (λ _. AreShort-cons (record { from = last.from; to = next.to; value = last.value }) [] here AreShort-none)
    (λ _. AreShort-cons last (next ∷ []) here (AreShort-cons next [] short AreShort-none))
push_stretch-short same (first ∷ second ∷ later) next so_far short =
    AreShort-cons first (push_stretch same (second ∷ later) next)
    (All-head (λ (stretch : Stretch Cell). IsShort stretch.value) first (second ∷ later) so_far)
    (push_stretch-short same (second ∷ later) next (All-tail
    (λ (stretch : Stretch Cell). IsShort stretch.value) first (second ∷ later) so_far) short)

-- and so days with a short cell
pub push_run-short : (found : List (Stretch Cell)) (from to : ℕ) (cell : Cell) → AreShort found → IsShort cell
    → AreShort (push_run same_cell found from to (Some cell))
push_run-short found from to cell so_far short =
    push_stretch-short same_cell found (record { from = from; to = to; value = cell }) so_far short

-- each of the longest runs of due cells lies inside its cell, if that is short
pub AreRuns-in_cells : (facts : FactsValue) (sub billed day end : ℕ) (stretches : List (Stretch Cell))
    → AreRuns same_cell (due_on facts sub billed) day end stretches → AreShort stretches
    → All IsInCell stretches
AreRuns-in_cells facts sub billed day end [] are short = All-nil IsInCell
AreRuns-in_cells facts sub billed day end (stretch ∷ later) are short =
    let some = are.0.some_day in
    let first = due_on-has_day facts sub billed stretch.from stretch.value
    (are.0.valued stretch.from (omega arith) some) in
    let last = due_on-has_day facts sub billed (stretch.to - 1) stretch.value
    (are.0.valued (stretch.to - 1) (omega (arith, some)) (omega (arith, some))) in
    let here = All-head (λ (stretch : Stretch Cell). IsShort stretch.value) stretch later short in
    All-cons IsInCell stretch later (first.0, omega (arith, last.1, some), here)
    (AreRuns-in_cells facts sub billed stretch.to end later are.3
    (All-tail (λ (stretch : Stretch Cell). IsShort stretch.value) stretch later short))

-- and each of those of fee cells
pub AreRuns-in_fees : (facts : FactsValue) (sub billed day end : ℕ) (stretches : List (Stretch Cell))
    → AreRuns same_cell (fee_on facts sub billed) day end stretches → All IsInCell stretches
AreRuns-in_fees facts sub billed day end [] are = All-nil IsInCell
AreRuns-in_fees facts sub billed day end (stretch ∷ later) are =
    let cell = fee_on-one_day facts sub billed stretch.from stretch.value
    (are.0.valued stretch.from (omega arith) are.0.some_day) in
    let one = IsStretch-one_day facts sub billed day end stretch are.0 in
    All-cons IsInCell stretch later (
      omega (arith, cell.0),
      omega (arith, cell.1, one),
      omega (arith, cell.0, cell.1),
    )
    (AreRuns-in_fees facts sub billed stretch.to end later are.3)
