-- Lanes go on in whatever a run does.
use Rattle.std.proofs.Common.{arith, refl, Result}
use Rattle.kb_lane.specs.Lanes.{LaneValue}
use Rattle.kb_lane.proofs.Going.{itself_then, well_none, well_then}
use Rattle.kb_runs.specs.Reading.{Known}
use Rattle.kb_runs.specs.declared.stop.Stop.{Stop}
use Rattle.kb_desk.specs.Continuing.{Continues, ContinueAll}
use Rattle.kb_apply.specs.Applying.{Applies}
use Rattle.kb_apply.specs.LaneRuns.{Outside, LanesValue, lanes_machine}
use Rattle.kb_apply.proofs.EachLane.{IsOverLane, over_lanes}
use Rattle.kb_apply.proofs.OverRuns.{IsOverSteps, over_run}

module _ {D G C : Type 0} (outside : Outside D G C) where
  abbrev GoesOn : LaneValue D G → LaneValue D G → Type 0
  GoesOn lane next = Continues outside.disks.honest outside.disks.moment outside.disks.left_since
      outside.disks.fault_count lane next

  stays : (lane : LaneValue D G) → GoesOn lane lane
  stays lane = record {
    well = well_none outside.disks.honest outside.disks.moment outside.disks.left_since lane.log lane.log
        refl;
    itself = record {
      lanes = refl;
      lane = refl;
      opened = refl;
      faults = refl;
      as_honest = refl;
      rising = omega arith;
    };
  }

  goes_then : (one two three : LaneValue D G) → GoesOn one two → GoesOn two three → GoesOn one three
  goes_then one two three first second = record {
    well = well_then outside.disks.honest outside.disks.moment outside.disks.left_since one.log two.log
        three.log first.well second.well first.itself.as_honest second.itself.lanes second.itself.lane;
    itself = itself_then outside.disks.honest outside.disks.fault_count one two three first.itself
        second.itself;
  }

  over : IsOverLane outside GoesOn
  over = record {
    stays = stays;
    goes_then = goes_then;
    performs = λ today command reply lane next does. does.1;
    looks_up = λ today step lane next does. does.1;
    drains = λ today step lane next does. does.1;
  }

  -- each lane continues over a step
  pub steps_continue : IsOverSteps outside (λ old new. ContinueAll GoesOn old.lanes new.lanes)
  steps_continue = over_lanes outside GoesOn over

  -- and over a run
  pub run_continues : (first last : LanesValue D G C) (left left_after written written_after : Known)
      (outcome : Result (Unit {0}) Stop)
      → Applies (lanes_machine outside) first left left_after written written_after last outcome
      → ContinueAll GoesOn first.lanes last.lanes
  run_continues = over_run outside (λ old new. ContinueAll GoesOn old.lanes new.lanes) steps_continue
