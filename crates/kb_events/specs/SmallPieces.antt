-- The pieces and the fees of some weeks, of the lead that changes on 11 March 2024.
use Rattle.std.specs.Prelude.{◌≡◌, ◌+◌, [], ◌∷◌, refl}
use Rattle.std.proofs.lemmas.Bool.{leb-true}
use Rattle.kb_base.specs.Runs.{runs}
use Rattle.kb_days.specs.Calendar.{month_of, month_after, month_start, month_length}
use Rattle.kb_days.specs.Dates.{february, march, april}
use Rattle.kb_align.specs.Phases.{phase_on, phase_starts}
use Rattle.kb_align.specs.PeriodDays.{period_on, last_day_on, next_day_after, is_boundary, first_month}
use Rattle.kb_blocking.specs.Blocking.{is_on}
use Rattle.kb_align.specs.PeriodDays.{max_period_days}
use Rattle.kb_due.specs.Cells.{cell_on}
use Rattle.kb_due.specs.DueDays.{due_on, fee_on}
use Rattle.kb_due.specs.SmallFacts.{facts, gold_in_march}
use Rattle.kb_due.specs.CellStretches.{same_cell, IsInCell}

-- from its change on the days of March are one piece, and none of April is due yet
piece_of_march : runs same_cell (due_on facts 0 (march 11)) (march 8) 26
    ≡ record { from = march 11; to = april 1; value = gold_in_march } ∷ []
unfolding runs due_on cell_on is_on phase_on phase_starts period_on last_day_on next_day_after is_boundary
    first_month month_of month_after month_start month_length
piece_of_march = refl

-- which lies inside the period of its cell, from 1 March on
inside_march : IsInCell (record { from = march 11; to = april 1; value = gold_in_march })
inside_march = (
  leb-true (march 1) (march 11) refl,
  leb-true (april 1) (april 1) refl,
  leb-true (april 1) (march 1 + max_period_days) refl,
)

-- the trial is charged once, on its first day
fee_of_the_trial : runs same_cell (fee_on facts 0 (march 1)) (february 27) 10
    ≡ record {
      from = march 1;
      to = march 2;
      value = record {
        plan = record { version = 0; list = 0; plan = 0 };
        phase = 0;
        start = march 1;
        end = march 2;
        price = 500;
      };
    } ∷ []
unfolding runs fee_on phase_on phase_starts
fee_of_the_trial = refl
