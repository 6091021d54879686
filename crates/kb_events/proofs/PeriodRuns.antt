-- Period after period, the cells of days are told as runs.
use Rattle.std.proofs.Common.{◌≡◌, ℕ, ◌+◌, ◌-◌, ◌<◌, ◌≤◌, ◌⊎◌, inl, inr, List, Option, Some, None, refl, ap}
use Rattle.std.proofs.Common.{◌∙◌, option_and_then, arith}
use Rattle.std.proofs.lemmas.Bool.{cases_lt, le-leb}
use Rattle.kb_base.specs.Runs.{Stretch, runs}
use Rattle.kb_align.specs.Boundaries.{IsPeriodOf}
use Rattle.kb_align.specs.PeriodDays.{max_period_days}
use Rattle.kb_timeline.specs.declared.subscription.Subscription.{Subscription}
use Rattle.kb_due.specs.declared.cell.Cell.{Cell}
use Rattle.kb_due.specs.Facts.{FactsValue}
use Rattle.kb_due.specs.Governing.{Governing}
use Rattle.kb_due.specs.CycleDays.{cycle_day}
use Rattle.kb_due.specs.Cells.{cell_by}
use Rattle.kb_events.specs.Private.BegunCells.{begun_by, begun_cell}
use Rattle.kb_base.specs.Intervals.{push_run}
use Rattle.kb_due.specs.CellStretches.{same_cell}
use Rattle.kb_due.proofs.SameCells.{same_cell-same}
use Rattle.kb_base.proofs.Intervals.{push_run-runs}
use Rattle.kb_events.proofs.PeriodCells.{cell_by-within, cell_by-none, begun_cell-later}

module _ (facts : FactsValue) (subscription : Subscription) (governing : Governing) (billed : ℕ) where
  -- a key gives the days from one up to another their cells, if their periods have begun
  abbrev pub IsBegunKey : ℕ → ℕ → (ℕ → Option Cell) → Type 0
  IsBegunKey from to key = (day : ℕ) → from ≤ day → day < to
      → key day ≡ begun_cell facts subscription governing billed day

  module _ (from to first : ℕ) (key : ℕ → Option Cell) (within : first ≤ from) (told : IsBegunKey from to key)
    where
      -- where no day has a cell the runs are those so far
      runs-quiet : (day : ℕ) (found : List (Stretch Cell)) → from ≤ day → day ≤ to
          → ((other : ℕ) → day ≤ other → other < to → begun_cell facts subscription governing billed other
          ≡ None)
          → found ≡ runs same_cell key first (day - first) → found ≡ runs same_cell key first (to - first)
      runs-quiet day found after before none so_far = by_order (cases_lt day to)
        where
          by_order : (day < to) ⊎ (to ≤ day) → found ≡ runs same_cell key first (to - first)
          by_order (inl some) =
              push_run-runs same_cell same_cell-same key first day to found None (omega arith) some
              (λ (other : ℕ) later up_to. told other (omega (arith, after, later)) up_to ∙ none other later
              up_to) so_far
          by_order (inr at) = let same : day ≡ to = omega arith in so_far
              ∙ ap (λ (end : ℕ). runs same_cell key first (end - first)) same

      -- a day without a cell ends it
      pub runs-none : (day : ℕ) (found : List (Stretch Cell)) → from ≤ day → day ≤ to
          → cell_by facts subscription day governing ≡ None
          → found ≡ runs same_cell key first (day - first) → found ≡ runs same_cell key first (to - first)
      runs-none day found after before none so_far =
          runs-quiet day found after before
          (λ (other : ℕ) later up_to. ap (option_and_then (begun_by billed))
          (cell_by-none facts subscription governing day other none)) so_far

      -- and so does a period that begins after the billed date
      pub runs-late : (day : ℕ) (cell : Cell) (found : List (Stretch Cell)) → from ≤ day → day ≤ to
          → IsPeriodOf governing.start governing.phase.period (cycle_day facts subscription governing) day
          cell.start cell.end
          → billed < cell.start → found ≡ runs same_cell key first (day - first)
          → found ≡ runs same_cell key first (to - first)
      runs-late day cell found after before period late so_far =
          runs-quiet day found after before
          (λ (other : ℕ) later up_to. begun_cell-later facts subscription governing billed day other cell
          period
          late later) so_far

      -- else the days of the period have its cell
      pub runs-period : (day end : ℕ) (cell : Cell) (found : List (Stretch Cell)) → from ≤ day → day < end
          → end ≤ to → end ≤ cell.end
          → cell_by facts subscription day governing ≡ Some cell
          → IsPeriodOf governing.start governing.phase.period (cycle_day facts subscription governing) day
          cell.start cell.end
          → cell.end ≤ cell.start + max_period_days → cell.start ≤ billed
          → found ≡ runs same_cell key first (day - first)
          → push_run same_cell found day end (Some cell) ≡ runs same_cell key first (end - first)
      runs-period day end cell found after some inside within_period is period short begun so_far =
          push_run-runs same_cell same_cell-same key first day end found (Some cell) (omega arith) some
          (λ (other : ℕ) later up_to.
          told other (omega (arith, after, later)) (omega (arith, up_to, inside))
          ∙ ap (option_and_then (begun_by billed))
          (cell_by-within facts subscription governing day other cell is period short
          (omega (arith, period.begun, later)) (omega (arith, up_to, within_period)))
          ∙ rw (le-leb cell.start billed begun) refl)
          so_far
