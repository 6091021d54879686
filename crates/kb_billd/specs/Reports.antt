-- What a report on a folder's lanes prints.
use Rattle.std.specs.Prelude.{ℕ, ◌≡◌, ◌≤◌, ◌⊎◌, List, length, map, slice_get, Some, Result, Ok, Err}
use Rattle.std.specs.Io.KnownBytes.{Keeps}
use Rattle.kb_disk.specs.Told.{DiskTold, VaultTold}
use Rattle.kb_machine.specs.Machines.{MachineValue}
use Rattle.kb_lane.specs.Lanes.{LaneValue, machine_of}
use Rattle.kb_runs.specs.Reading.{Known}
use Rattle.kb_runs.specs.declared.run_stop.RunStop.TheVariants as runs
use Rattle.kb_words.specs.declared.report_kind.ReportKind.{ReportKind}
use Rattle.kb_words.specs.declared.report_kind.ReportKind.TheVariants as kinds
use Rattle.kb_folder.specs.declared.unopened.Unopened.{Unopened}
use Rattle.kb_gateway.specs.declared.no_market.NoGateway.{NoGateway}
use Rattle.kb_folder.specs.OneLane.{IsOpened}
use Rattle.kb_folder.specs.Openings.{IsAsBefore, IsCause, IsFirstOfThem}
use Rattle.kb_reports.specs.declared.printing.Unprinted.{Unprinted}
use Rattle.kb_reports.specs.declared.printing.Unprinted.TheVariants as unprinted
use Rattle.kb_reports.specs.Listings.{Said, Prints, PrintsPart}
use Rattle.kb_reports.specs.ReportLines.{balances_of, arrears_of, states_on}
use Rattle.kb_runs.specs.declared.stop.Stop.{Stop}
use Rattle.kb_runs.specs.declared.stop.Stop.TheVariants as stops
use Rattle.kb_billd.specs.Runs.{stop_of_unopened}

-- what a report of a kind says of an account on a day
abbrev pub said_by : ReportKind → ℕ → Said
said_by kinds.Balances day = balances_of
said_by kinds.Arrears day = arrears_of
said_by kinds.States day = states_on day

-- what stops the program where a report isn't printed to its end
abbrev pub stop_of_unprinted : Unprinted → Stop
stop_of_unprinted unprinted.Output = stops.Run runs.Output
stop_of_unprinted unprinted.NoMemory = stops.Run runs.Memory

abbrev pub outcome_of_printing : Result (Unit {0}) Unprinted → Result (Unit {0}) Stop
outcome_of_printing (Ok done) = Ok done
outcome_of_printing (Err fault) = Err (stop_of_unprinted fault)

-- A report is printed; or, where the output failed or memory ran out, a first part of it.
abbrev pub PrintsBy : Said → List MachineValue → Known → Known → Result (Unit {0}) Unprinted → Type 0
PrintsBy said lanes written written_after (Ok done) = Prints said lanes written written_after
PrintsBy said lanes written written_after (Err fault) = PrintsPart said lanes written written_after

-- The lanes of a folder are opened, each with the history that its bytes stand for; what they lead to is
-- reported; and the folder is as it was.
pub record ReportsLanes {D : Type 0} (disks : DiskTold D) (folder : List ℕ) (said : Said)
    (old new : VaultTold D)
    (written written_after : Known) (printed : Result (Unit {0}) Unprinted) : Type 0 where
  pub lanes : List (LaneValue D NoGateway)
  pub some : 1 ≤ length lanes
  pub few : length lanes ≤ 64
  pub opened : (place : ℕ) (lane : LaneValue D NoGateway) → slice_get lanes place ≡ Some lane
      → IsOpened disks (length lanes) place (old.lane_bytes folder place) lane
  pub prints : PrintsBy said (map machine_of lanes) written written_after printed
  pub same : IsAsBefore disks folder old new
  pub calm : new.faults ≡ old.faults

-- The lanes of a folder weren't opened: nothing is printed, and no lane has other bytes.
pub record ReportsNothing {D : Type 0} (disks : DiskTold D) (folder : List ℕ) (old new : VaultTold D)
    (written written_after : Known)
    (fault : Unopened)
    : Type 0 where
  pub cause : IsCause folder old new 0 0 fault
  pub in_order : IsFirstOfThem folder old fault
  pub same : IsAsBefore disks folder old new
  pub unwritten : Keeps written written_after

-- What a report leaves, by its outcome.
abbrev pub ReportsFolder : {D : Type 0} → DiskTold D → List ℕ → Said → VaultTold D → VaultTold D → Known
    → Known
    → Result (Unit {0}) Stop → Type 0
ReportsFolder disks folder said old new written written_after outcome =
    ((fault : Unopened) × (outcome ≡ Err (stop_of_unopened fault))
    × ReportsNothing disks folder old new written written_after fault)
    ⊎ ((printed : Result (Unit {0}) Unprinted) × (outcome ≡ outcome_of_printing printed)
    × ReportsLanes disks folder said old new written written_after printed)
