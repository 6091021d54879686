-- The lanes of a folder, opened one after another.
use Rattle.std.specs.Prelude.{ℕ, ◌≡◌, ◌≤◌, ◌<◌, true, false, List, [], ◌∷◌, ◌++◌, length, slice_get, Some}
use Rattle.std.specs.Prelude.{IfSome}
use Rattle.kb_disk.specs.Places.{is_among, SameLanes, SameFiles}
use Rattle.kb_disk.specs.Told.{DiskTold, VaultTold}
use Rattle.kb_lane.specs.Lanes.{LaneValue}
use Rattle.kb_folder.specs.Folders.{with_lanes}
use Rattle.kb_folder.specs.OneLane.{ComesBackWhole, KeepsBytes, TellsNoOther, TakesOut}

-- the next lane is opened
abbrev pub AddsLane : {D G : Type 0} → DiskTold D → List ℕ → ℕ → VaultTold D → VaultTold D → List
    (LaneValue D G)
    → List (LaneValue D G) → Type 0
AddsLane disks folder count old new lanes more = (lane : LaneValue _ _) × (more ≡ lanes ++ lane ∷ [])
    × TakesOut disks folder count (length lanes) old new lane

-- Some lanes are open, and the next one couldn't be.
pub record HasStopped {D G : Type 0} (disks : DiskTold D) (folder : List ℕ) (old new : VaultTold D)
    (lanes : List (LaneValue D G)) : Type 0 where
  pub few : length lanes < 64
  pub out : SameLanes new.is_out (with_lanes old.is_out folder (length lanes) true)
  pub others : (this_folder : List ℕ) (this : ℕ) → is_among folder (length lanes) this_folder this ≡ false
      → TellsNoOther (old.lane_bytes this_folder this) (new.lane_bytes this_folder this)
  pub outside : (this_folder : List ℕ) (this : ℕ) → is_among folder 64 this_folder this ≡ false
      → new.lane_bytes this_folder this ≡ old.lane_bytes this_folder this
  pub back : (this_folder : List ℕ) (this : ℕ) → ComesBackWhole disks (old.lane_bytes this_folder this)
      (old.came_back this_folder this) (new.came_back this_folder this)
  pub not_back : (place : ℕ) → place < length lanes → new.came_back folder place ≡ old.came_back folder place
  pub unharmed : (place : ℕ) (lane : LaneValue D G) → slice_get lanes place ≡ Some lane
      → KeepsBytes disks (old.lane_bytes folder place) lane.log.journal.disk
  pub files : SameFiles new.file_bytes old.file_bytes
  pub rising : old.faults ≤ new.faults
  pub calm : (place : ℕ) (lane : LaneValue D G) → slice_get lanes place ≡ Some lane
      → disks.fault_count lane.log.journal.disk ≡ 0
  pub seen : (place : ℕ) (lane : LaneValue D G) → slice_get lanes place ≡ Some lane
      → IfSome (old.lane_bytes folder place) (λ bytes. disks.seen lane.log.journal.disk ≡ bytes)
