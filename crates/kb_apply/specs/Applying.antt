-- How a run of lanes over the lines of a source ends.
use Rattle.std.specs.Prelude.{ℕ, ◌≡◌, true, false, List, Result, Ok, Err}
use Rattle.kb_base.specs.Machine.{Machine}
use Rattle.kb_desk.specs.Stops.{any_stopped}
use Rattle.kb_runs.specs.Reading.{Known, Ends, StopsBy}
use Rattle.kb_runs.specs.declared.stop.Stop.{Stop}
use Rattle.kb_runs.specs.declared.stop.Stop.TheVariants.{Run, Disk, Full}
use Rattle.kb_apply.specs.LaneRuns.{LanesValue}

-- How lanes are left whose input was read to its end: an append failed on one; or none did, and one had no
-- room; or neither. It ends in no other way.
abbrev pub IsOutcome : {D G C : Type 0} → LanesValue D G C → Result (Unit {0}) Stop → Type 0
IsOutcome lanes (Ok done) = (any_stopped lanes.lanes ≡ false) × (lanes.full ≡ false)
IsOutcome lanes (Err Disk) = any_stopped lanes.lanes ≡ true
IsOutcome lanes (Err Full) = (any_stopped lanes.lanes ≡ false) × (lanes.full ≡ true)
IsOutcome lanes (Err stop) = ⊥

-- A run from first lanes to last ones, by its outcome: stopped on the way; or the input was read to its
-- end, and each of its lines was answered.
abbrev pub Applies : {D G C : Type 0} → Machine (LanesValue D G C) (List ℕ) → LanesValue D G C → Known → Known
    → Known → Known → LanesValue D G C → Result (Unit {0}) Stop → Type 0
Applies machine first left left_after written written_after last (Err (Run stop)) =
    StopsBy machine first stop left left_after written written_after last
Applies machine first left left_after written written_after last outcome =
    Ends machine first left left_after written written_after last × IsOutcome last outcome
