-- Days on which nothing happens, as runs of due cells.
use Rattle.std.proofs.Common.{◌≡◌, ℕ, ◌-◌, ◌<◌, ◌≤◌, true, false, List, Option, Some, None, ◌∙◌}
use Rattle.kb_base.specs.Runs.{Stretch, runs}
use Rattle.kb_days.specs.Calendar.{end_of_days}
use Rattle.kb_timeline.specs.declared.subscription.Subscription.{Subscription}
use Rattle.kb_due.specs.declared.cell.Cell.{Cell}
use Rattle.kb_due.specs.Facts.{FactsValue}
use Rattle.kb_due.specs.Governing.{Governing, governing_on, IsBegun}
use Rattle.kb_due.specs.Life.{is_live_of}
use Rattle.kb_due.specs.Cells.{is_unbilled, cell_by}
use Rattle.kb_due.specs.DueDays.{event_by, due_of}
use Rattle.kb_events.specs.Private.BegunCells.{begun_cell}
use Rattle.kb_due.specs.CellStretches.{same_cell}
use Rattle.kb_events.specs.Private.QuietDays.{IsQuietBetween}
use Rattle.kb_due.proofs.SameCells.{same_cell-same}
use Rattle.kb_base.proofs.Intervals.{push_run-runs}
use Rattle.kb_events.proofs.QuietCells.{due_of-quiet, due_of-dead, due_of-blocked, due_of-nothing}
use Rattle.kb_events.proofs.LastEvents.{due_by-late, due_by-begun}

-- days without a value, behind the runs before them, add none
pub runs-empty : (key : ℕ → Option Cell) (first from to : ℕ) (found : List (Stretch Cell)) → first ≤ from
    → from < to
    → ((day : ℕ) → from ≤ day → day < to → key day ≡ None) → found ≡ runs same_cell key first (from - first)
    → found ≡ runs same_cell key first (to - first)
runs-empty key first from to found named order none so_far =
    push_run-runs same_cell same_cell-same key first from to found None named order none so_far

module _ (facts : FactsValue) (subscription : Subscription) (sub from to : ℕ)
    (quiet : IsQuietBetween facts subscription sub from to)
    (told : to ≤ end_of_days) (billed : ℕ)
    (first : ℕ) (found : List (Stretch Cell)) (named : first ≤ from) (order : from < to)
    (so_far : found ≡ runs same_cell (due_of facts subscription sub billed) first (from - first)) where
  -- the runs go on where billing is blocked
  pub runs-blocked : is_unbilled facts subscription sub from ≡ true
      → found ≡ runs same_cell (due_of facts subscription sub billed) first (to - first)
  runs-blocked blocked =
      runs-empty (due_of facts subscription sub billed) first from to found named order
      (λ day after before. due_of-blocked facts subscription sub from to quiet told billed day after before
      blocked) so_far

  -- where the subscription isn't live
  pub runs-dead : is_live_of facts subscription from ≡ false
      → found ≡ runs same_cell (due_of facts subscription sub billed) first (to - first)
  runs-dead dead =
      runs-empty (due_of facts subscription sub billed) first from to found named order
      (λ day after before. due_of-dead facts subscription sub from to quiet told billed day after before dead)
      so_far

  -- where nothing governs
  pub runs-nothing : governing_on facts.catalog subscription.entries from ≡ None
      → found ≡ runs same_cell (due_of facts subscription sub billed) first (to - first)
  runs-nothing none =
      runs-empty (due_of facts subscription sub billed) first from to found named order
      (λ day after before. due_of-nothing facts subscription sub from to quiet told billed day after before
      none) so_far

  -- and where the last event comes after the billed date
  pub runs-undue : (governing : Governing) → IsBegun governing from
      → governing_on facts.catalog subscription.entries from ≡ Some governing
      → is_live_of facts subscription from ≡ true → is_unbilled facts subscription sub from ≡ false
      → billed < event_by facts subscription sub governing from
      → found ≡ runs same_cell (due_of facts subscription sub billed) first (to - first)
  runs-undue governing begun governs live unblocked late =
      runs-empty (due_of facts subscription sub billed) first from to found named order
      (λ day after before.
      due_of-quiet facts subscription sub from to quiet told billed governing day begun after before governs
      live unblocked
      ∙ due_by-late billed (event_by facts subscription sub governing from)
      (cell_by facts subscription day governing) late) so_far

-- else each day has the cell of its period, if that has begun
pub due_of-begun : (facts : FactsValue) (subscription : Subscription) (sub from to : ℕ)
    → IsQuietBetween facts subscription sub from to
    → to ≤ end_of_days → (billed : ℕ) (governing : Governing)
    → IsBegun governing from → governing_on facts.catalog subscription.entries from ≡ Some governing
    → is_live_of facts subscription from ≡ true
    → is_unbilled facts subscription sub from ≡ false
    → event_by facts subscription sub governing from ≤ billed
    → (day : ℕ) → from ≤ day → day < to
    → due_of facts subscription sub billed day ≡ begun_cell facts subscription governing billed day
due_of-begun facts subscription sub from to quiet told billed governing begun governs live unblocked past day
    after before =
    due_of-quiet facts subscription sub from to quiet told billed governing day begun after before governs
    live unblocked
    ∙ due_by-begun billed (event_by facts subscription sub governing from)
    (cell_by facts subscription day governing) past
