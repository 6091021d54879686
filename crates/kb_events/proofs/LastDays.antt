-- The last of the longest runs of a key ends behind the last day with a value.
use Rattle.std.proofs.Common.{◌≡◌, ℕ, zero, suc, ◌+◌, ◌-◌, ◌<◌, ◌≤◌, inl, inr, Bool, false, List, [], ◌∷◌}
use Rattle.std.proofs.Common.{map, length, slice_get, Option, Some, None, is_some, option_map, refl, sym, ap}
use Rattle.std.proofs.Common.{◌∙◌, arith}
use Rattle.std.specs.List.{last_or}
use Rattle.std.proofs.lemmas.Bool.{cases_lt}
use Rattle.kb_base.specs.Runs.{Stretch, AreRuns}
use Rattle.kb_align.specs.PeriodDays.{last_day_on}
use Rattle.kb_align.proofs.Searches.{last_day_on-is}
use Rattle.kb_base.proofs.Tiled.{runs-are-to}
use Rattle.kb_days.specs.Calendar.{first_day, charged_days, end_of_days, last_charged}
use Rattle.kb_due.specs.declared.cell.Cell.{Cell}
use Rattle.kb_due.specs.declared.cell.Piece.{Piece}
use Rattle.kb_due.specs.Facts.{FactsValue}
use Rattle.kb_due.specs.DueDays.{due_on, charged_until, charged_through}
use Rattle.kb_due.specs.CellStretches.{same_cell, stretch_of}
use Rattle.kb_events.specs.Pieces.{pieces}
use Rattle.kb_due.proofs.SameCells.{same_cell-same}

-- where no day up to one passes a test, the last one that does is 0
last_day_on-none : (test : ℕ → Bool) (day : ℕ) → ((other : ℕ) → other ≤ day → test other ≡ false)
    → last_day_on test day ≡ zero
unfolding last_day_on
last_day_on-none test zero none = refl
last_day_on-none test (suc before) none = rw (none (suc before) (omega arith))
    (last_day_on-none test before (λ other up_to. none other (omega (arith, up_to))))

module _ (same : Cell → Cell → Bool) (key : ℕ → Option Cell) where
  -- a day has a value
  abbrev has_value : ℕ → Bool
  has_value day = is_some (key day)

  -- the last of the longest runs, if there is one, ends behind the last day with a value, which isn't 0
  last_day-runs : (day last : ℕ) (first : Stretch Cell) (later : List (Stretch Cell)) → 0 < day
      → AreRuns same key day (last + 1) (first ∷ later)
      → (option_map (λ (stretch : Stretch Cell). stretch.to) (last_or None (first ∷ later)) ≡ Some
      (suc (last_day_on has_value last))) × (0 < last_day_on has_value last)
  last_day-runs day last first [] some are =
      let at : first.to - 1 + 1 ≡ first.to = omega (arith, are.0.some_day) in
      let valued = are.0.valued (first.to - 1) (omega (arith, are.0.some_day))
      (omega (arith, are.0.some_day)) in
      let is = last_day_on-is has_value (first.to - 1) last (omega (arith, are.0.ends)) (ap is_some valued)
      (λ other after up_to. ap is_some (are.3 other (omega (arith, after, at)) (omega (arith, up_to)))) in
      (ap Some (omega (arith, is, at)), omega (arith, is, are.0.some_day, are.0.begins, some))
  last_day-runs day last first (second ∷ later) some are =
      last_day-runs first.to last second later (omega (arith, are.0.some_day)) are.3

-- the last member is the one at the last place
last_or-behind : {A : Type 0} (before : Option A) (first : A) (later : List A)
    → last_or before (first ∷ later) ≡ slice_get (first ∷ later) (length later)
last_or-behind before first [] = refl
last_or-behind before first (second ∷ later) = last_or-behind (Some first) second later

pub last_or-slice_get : {A : Type 0} (members : List A)
    → last_or None members ≡ slice_get members (length members - 1)
last_or-slice_get [] = refl
last_or-slice_get (first ∷ later) =
    let place : length later ≡ length (first ∷ later) - 1 = omega arith in
    last_or-behind None first later ∙ ap (slice_get (first ∷ later)) place

-- the last piece as a stretch
last_or-map : {A B : Type 0} (f : A → B) (before : Option A) (members : List A)
    → last_or (option_map f before) (map f members) ≡ option_map f (last_or before members)
last_or-map f before [] = refl
last_or-map f before (member ∷ later) = last_or-map f (Some member) later

-- a subscription is charged through the last of its longest runs of due cells
charged-runs : (facts : FactsValue) (sub billed : ℕ) (stretches : List (Stretch Cell))
    → AreRuns same_cell (due_on facts sub billed) first_day end_of_days stretches
    → ((day : ℕ) → day < first_day → due_on facts sub billed day ≡ None)
    → option_map (λ (stretch : Stretch Cell). stretch.to) (last_or None stretches)
    ≡ charged_through facts sub billed
unfolding charged_until
charged-runs facts sub billed [] are early =
    let none =
    last_day_on-none (has_value same_cell (due_on facts sub billed)) last_charged (λ other up_to.
    elim (cases_lt other first_day) [
      | inl before ↦ ap is_some (early other before)
      | inr from ↦ ap is_some (are other from (omega (arith, up_to)))
    ]) in
    rw none refl
charged-runs facts sub billed (first ∷ later) are early =
    let is = last_day-runs same_cell (due_on facts sub billed) first_day last_charged first later
    (omega arith) are in
    by_last (last_day_on (has_value same_cell (due_on facts sub billed)) last_charged) refl is.0 is.1
  where
    by_last : (last : ℕ) → last_day_on (has_value same_cell (due_on facts sub billed)) last_charged ≡ last
        → option_map (λ (stretch : Stretch Cell). stretch.to) (last_or None (first ∷ later))
        ≡ Some (suc (last_day_on (has_value same_cell (due_on facts sub billed)) last_charged))
        → 0 < last_day_on (has_value same_cell (due_on facts sub billed)) last_charged
        → option_map (λ (stretch : Stretch Cell). stretch.to) (last_or None (first ∷ later))
        ≡ charged_until last_charged facts sub billed
    by_last zero e is some = absurd (omega (arith, e, some))
    by_last (suc before) e is some = rw (is, e) refl

-- the last piece tells until when a subscription is charged, where nothing is due before the days that
-- may be charged
pub charged-last : (facts : FactsValue) (sub billed : ℕ) (found : List Piece)
    → map stretch_of found ≡ pieces facts sub billed
    → ((day : ℕ) → day < first_day → due_on facts sub billed day ≡ None)
    → option_map (λ (piece : Piece). piece.to) (last_or None found) ≡ charged_through facts sub billed
unfolding pieces
charged-last facts sub billed found told early =
    let are : AreRuns same_cell (due_on facts sub billed) first_day end_of_days (map stretch_of found) =
    rw told (runs-are-to same_cell (due_on facts sub billed) same_cell-same first_day charged_days end_of_days
    (omega arith)) in
    let ends = λ (stretch : Stretch Cell). stretch.to in
    let last : option_map ends (option_map stretch_of (last_or None found))
    ≡ charged_through facts sub billed =
    sym (ap (option_map ends) (last_or-map stretch_of None found))
    ∙ charged-runs facts sub billed (map stretch_of found) are early in
    by_last (last_or None found) last
  where
    by_last : (last : Option Piece)
        → option_map (λ (stretch : Stretch Cell). stretch.to) (option_map stretch_of last)
        ≡ charged_through facts sub billed
        → option_map (λ (piece : Piece). piece.to) last ≡ charged_through facts sub billed
    by_last None is = is
    by_last (Some piece) is = is
