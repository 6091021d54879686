-- A lane that was taken out of a folder, and is opened or not.
use Rattle.std.specs.Prelude.{ℕ, ◌≡◌, ◌≤◌, ◌<◌, false, List, Option, IfSome}
use Rattle.kb_disk.specs.Places.{with_lane, SameLanes, SameFiles}
use Rattle.kb_disk.specs.Told.{DiskTold, VaultTold}
use Rattle.kb_lane.specs.Lanes.{LaneValue}
use Rattle.kb_lane.specs.Loads.{IsNoLane}
use Rattle.kb_folder.specs.declared.unopened.Unopened.{Unopened}
use Rattle.kb_folder.specs.declared.unopened.Unopened.TheVariants.{Disk, NoMemory, Journal, Market}
use Rattle.kb_folder.specs.OneLane.{ComesBackWhole, IsOpened, KeepsBytes, TellsNoOther, IsLaneCause}

-- A lane that was taken out, where these were its bytes, is back without other ones, and unharmed.
pub record IsGivenBack {D : Type 0} (disks : DiskTold D) (folder : List ℕ) (number : ℕ)
    (told : Option (List ℕ)) (old new : VaultTold D) : Type 0 where
  pub inside : SameLanes new.is_out (with_lane old.is_out folder number false)
  pub bytes : TellsNoOther told (new.lane_bytes folder number)
  pub others : SameLanes new.lane_bytes (with_lane old.lane_bytes folder number
      (new.lane_bytes folder number))
  pub back : ComesBackWhole disks told (old.came_back folder number) (new.came_back folder number)
  pub others_back : SameLanes new.came_back (with_lane old.came_back folder number
      (new.came_back folder number))
  pub files : SameFiles new.file_bytes old.file_bytes
  pub rising : old.faults ≤ new.faults

-- a lane whose disk was taken out is opened
abbrev pub StaysOut : {D G : Type 0} → DiskTold D → ℕ → ℕ → Option (List ℕ) → VaultTold D → VaultTold D
    → LaneValue D G → Type 0
StaysOut disks count number told old new lane = (new ≡ old) × IsOpened disks count number told lane

-- Why the lane of this number, with these bytes, isn't loaded from a disk, and what that leaves: its bytes
-- are as they were, and no call of it failed, unless that is the cause. Of how many lanes it is isn't asked.
abbrev pub IsUnloadedBy : ℕ → Option (List ℕ) → Unopened → ℕ → Type 0
IsUnloadedBy number told Disk failed = 0 < failed
IsUnloadedBy number told NoMemory failed = failed ≡ 0
IsUnloadedBy number told (Journal lane at) failed =
    (lane ≡ number) × IfSome told (λ bytes. IsNoLane number bytes at) × (failed ≡ 0)
IsUnloadedBy number told Market failed = ⊥

abbrev pub IsUnloaded : {D : Type 0} → DiskTold D → ℕ → Option (List ℕ) → Unopened → D → Type 0
IsUnloaded disks number told fault disk = IfSome told (λ bytes. disks.seen disk ≡ bytes)
    × KeepsBytes disks told disk × IsUnloadedBy number told fault (disks.fault_count disk)

-- a lane whose disk was taken out isn't opened, and is given back
abbrev pub IsUnmade : {D : Type 0} → DiskTold D → List ℕ → ℕ → ℕ → Option (List ℕ) → VaultTold D → VaultTold D
    → ℕ → ℕ → Unopened → Type 0
IsUnmade disks folder count number told old new market_old market_new fault =
    IsGivenBack disks folder number told old new
    × IsLaneCause count number told old.faults new.faults market_old market_new fault
