-- Pieces tell the due cell of each day.
use Rattle.std.proofs.Common.{ℕ, ◌≡◌, ◌⊎◌, inl, inr, ◌+◌, ◌<◌, ◌≤◌, List, Option, Some, None, slice_get, All}
use Rattle.std.proofs.Common.{option_to_list, refl, ap, sym, ◌∙◌, arith}
use Rattle.std.proofs.lemmas.Bool.{cases_lt}
use Rattle.kb_base.specs.Runs.{Stretch, AreRuns, runs}
use Rattle.kb_base.proofs.Covered.{runs-before, runs-after, runs-cover}
use Rattle.kb_days.specs.Calendar.{first_day, charged_days, end_of_days}
use Rattle.kb_due.specs.declared.cell.Cell.{Cell}
use Rattle.kb_due.specs.CellStretches.{same_cell, IsInCell}
use Rattle.kb_due.proofs.SameCells.{same_cell-same}
use Rattle.kb_tree.specs.Covers.{ArePieces, due_in}
use Rattle.kb_tree.proofs.RunsInOrder.{AreRuns-in_order}

-- longest runs of days that lie inside their cells are pieces
pub runs-pieces : (key : ℕ → Option Cell) (found : List (Stretch Cell))
    → AreRuns same_cell key first_day end_of_days found → All IsInCell found → ArePieces found
runs-pieces key found are inside =
    (AreRuns-in_order same_cell key first_day end_of_days found (omega arith) are, inside)

first-of : (one : Option Cell) → slice_get (option_to_list one) 0 ≡ one
first-of None = refl
first-of (Some cell) = refl

-- the runs of a key tell it of each day, where it has none outside
pub runs-due : (key : ℕ → Option Cell) (found : List (Stretch Cell))
    → found ≡ runs same_cell key first_day charged_days
    → ((day : ℕ) → day < first_day → key day ≡ None) → ((day : ℕ) → end_of_days ≤ day → key day ≡ None)
    → (day : ℕ) → due_in found day ≡ key day
runs-due key found are early late day =
    ap (λ stretches. due_in stretches day) are
    ∙ by_place (cases_lt day first_day) (cases_lt day (first_day + charged_days))
  where
    by_place : (day < first_day) ⊎ (first_day ≤ day)
        → (day < first_day + charged_days) ⊎ (first_day + charged_days ≤ day)
        → due_in (runs same_cell key first_day charged_days) day ≡ key day
    by_place (inl before) at_end =
        ap (λ all. slice_get all 0) (runs-before same_cell key first_day charged_days day before)
        ∙ sym (early day before)
    by_place (inr low) (inl high) =
        ap (λ all. slice_get all 0)
        (runs-cover same_cell same_cell-same key first_day charged_days day low high)
        ∙ first-of (key day)
    by_place (inr low) (inr after) =
        ap (λ all. slice_get all 0) (runs-after same_cell key first_day charged_days day after)
        ∙ sym (late day (omega (arith, after)))

pub ruleset due_pieces = (runs-pieces, runs-due)
