-- A report on lanes that were opened and are given back.
use Rattle.std.proofs.Common.{◌≡◌, ◌≤◌, ℕ, false, List, length, map, Result, Ok, Err, OnOk, OnErr, refl}
use Rattle.kb_disk.specs.Told.{DiskTold, VaultTold}
use Rattle.kb_machine.specs.Machines.{MachineValue}
use Rattle.kb_lane.specs.Lanes.{LaneValue, machine_of}
use Rattle.kb_runs.specs.Reading.{Known}
use Rattle.kb_runs.specs.declared.run_stop.RunStop.TheVariants as runs
use Rattle.kb_gateway.specs.declared.no_market.NoGateway.{NoGateway}
use Rattle.kb_folder.specs.Openings.{AreBack, AreOpened}
use Rattle.kb_folder.proofs.Unchanged.{unchanged, uncounted}
use Rattle.kb_reports.specs.declared.printing.Unprinted.{Unprinted}
use Rattle.kb_reports.specs.declared.printing.Unprinted.TheVariants as unprinted
use Rattle.kb_reports.specs.Listings.{Said, Prints, PrintsPart}
use Rattle.kb_runs.specs.declared.stop.Stop.TheVariants as stops
use Rattle.kb_billd.specs.Reports.{PrintsBy, ReportsLanes, outcome_of_printing}

-- what is printed whole or in part is printed by the outcome
pub prints_by : (said : Said) (lanes : List MachineValue) (written written_after : Known)
    (printed : Result (Unit {0}) Unprinted) → OnOk printed (Prints said lanes written written_after)
    → OnErr printed (PrintsPart said lanes written written_after)
    → PrintsBy said lanes written written_after printed
prints_by said lanes written written_after (Ok done) whole part = whole
prints_by said lanes written written_after (Err fault) whole part = part

-- a report reads no input
pub printing_no_input : (printed : Result (Unit {0}) Unprinted)
    → outcome_of_printing printed ≡ Err (stops.Run runs.Input) → ⊥
printing_no_input (Ok done) is = cc
printing_no_input (Err unprinted.Output) is = cc
printing_no_input (Err unprinted.NoMemory) is = cc

-- the output failed while it was printed
pub printing_output : (printed : Result (Unit {0}) Unprinted)
    → outcome_of_printing printed ≡ Err (stops.Run runs.Output) → printed ≡ Err unprinted.Output
printing_output (Ok done) is = absurd (cc)
printing_output (Err unprinted.Output) is = refl
printing_output (Err unprinted.NoMemory) is = absurd (cc)

pub reports_lanes : {D : Type 0} (disks : DiskTold D) (folder : List ℕ) (said : Said)
    (old mid new : VaultTold D)
    (written written_after : Known) (printed : Result (Unit {0}) Unprinted)
    (lanes : List (LaneValue D NoGateway))
    → 1 ≤ length lanes → length lanes ≤ 64 → AreOpened disks folder (length lanes) old mid lanes
    → ((lane : ℕ) → old.is_out folder lane ≡ false)
    → PrintsBy said (map machine_of lanes) written written_after printed
    → AreBack disks folder mid new lanes
    → ReportsLanes disks folder said old new written written_after printed
reports_lanes disks folder said old mid new written written_after printed lanes some few opened inside prints
    back = record {
      lanes = lanes;
      some = some;
      few = few;
      opened = opened.each;
      prints = prints;
      same = unchanged disks folder (length lanes) old mid new lanes opened back few inside;
      calm = uncounted disks folder (length lanes) old mid new lanes opened back;
    }
