-- Lanes of a folder, opened from a vault and given back.
use Rattle.std.specs.Prelude.{ℕ, ◌≡◌, ◌≢◌, ◌≤◌, ◌<◌, ◌⊎◌, true, false, IsTrue, ⊤, List, length, slice_get}
use Rattle.std.specs.Prelude.{Option, Some, None, IfSome}
use Rattle.kb_base.specs.Faults.{Rose}
use Rattle.kb_ports.specs.Notes.{Notes}
use Rattle.kb_disk.specs.Places.{is_among, SameLanes, SameFiles}
use Rattle.kb_disk.specs.Told.{DiskTold, VaultTold}
use Rattle.kb_journal.specs.Reading.{number_at}
use Rattle.kb_gateway.specs.declared.order.Asked.{Asked}
use Rattle.kb_gateway.specs.Told.{GatewayTold, IsUnasked, MarketTold}
use Rattle.kb_lane.specs.Logs.{KeepsAll, StandsForLog}
use Rattle.kb_lane.specs.Asking.{HaveAttempts, WasAskedOnce}
use Rattle.kb_lane.specs.Lanes.{LaneValue, machine_of, opened_of}
use Rattle.kb_lane.specs.Loads.{IsNoLane}
use Rattle.kb_folder.specs.declared.unopened.Unopened.{Unopened}
use Rattle.kb_folder.specs.declared.unopened.Unopened.TheVariants.{Disk, NoMemory, Journal, Market}
use Rattle.kb_folder.specs.Folders.{with_lanes}
use Rattle.kb_folder.specs.OneLane.{ComesBackWhole, IsLaneOf, IsOpened, TellsNoOther}

-- The first lanes of a folder are open, of so many: the one at each place has its number, and is out.
-- Nothing else has changed in the vault, and no call failed.
pub record AreOpened {D G : Type 0} (disks : DiskTold D) (folder : List ℕ) (count : ℕ) (old new : VaultTold D)
    (lanes : List (LaneValue D G)) : Type 0 where
  pub each : (place : ℕ) (lane : LaneValue D G) → slice_get lanes place ≡ Some lane
      → IsOpened disks count place (old.lane_bytes folder place) lane
  pub out : SameLanes new.is_out (with_lanes old.is_out folder (length lanes) true)
  pub bytes : SameLanes new.lane_bytes (with_lanes old.lane_bytes folder (length lanes) None)
  pub came_back : SameLanes new.came_back old.came_back
  pub files : SameFiles new.file_bytes old.file_bytes
  pub calm : new.faults ≡ old.faults

-- the gateway of each lane serves the lane of its place
abbrev pub AreServed : {D G : Type 0} → (G → ℕ → Type 0) → List (LaneValue D G) → Type 0
AreServed serves lanes = (place : ℕ) (lane : LaneValue _ _) → slice_get lanes place ≡ Some lane
    → serves lane.gateway place

-- Lanes of a folder were given back, the one at each place as that of its number: none of them is out any
-- more, and each has the bytes that its disk reads, which stand for its log if the disk is honest. A disk
-- that has failed, as that of a lane that has stopped, raises the vault's count; if none has, the count
-- stays. Each disk that came back is told, where the vault tells them; if no append failed on it, a crash
-- leaves all of its lane's commands, and no call of it has failed since the lane was opened.
pub record AreBack {D G : Type 0} (disks : DiskTold D) (folder : List ℕ) (old new : VaultTold D)
    (lanes : List (LaneValue D G)) : Type 0 where
  pub inside : SameLanes new.is_out (with_lanes old.is_out folder (length lanes) false)
  pub bytes : (place : ℕ) (lane : LaneValue D G) → slice_get lanes place ≡ Some lane
      → IfSome (new.lane_bytes folder place) (λ bytes. bytes ≡ disks.seen lane.log.journal.disk)
  pub stand : (place : ℕ) (lane : LaneValue D G) → slice_get lanes place ≡ Some lane
      → IsTrue (disks.honest lane.log.journal.disk)
      → IfSome (new.lane_bytes folder place) (StandsForLog lane.log)
  pub durable : (place : ℕ) (lane : LaneValue D G) → slice_get lanes place ≡ Some lane
      → IsTrue (disks.honest lane.log.journal.disk) → lane.log.journal.stopped ≡ false
      → KeepsAll disks.images lane.log
  pub quiet : (place : ℕ) (lane : LaneValue D G) → slice_get lanes place ≡ Some lane
      → lane.log.journal.stopped ≡ false → disks.fault_count lane.log.journal.disk ≡ lane.log.faults
  pub others : (this_folder : List ℕ) (this : ℕ) → is_among folder (length lanes) this_folder this ≡ false
      → new.lane_bytes this_folder this ≡ old.lane_bytes this_folder this
  pub noted : (place : ℕ) (lane : LaneValue D G) → slice_get lanes place ≡ Some lane
      → Notes (old.came_back folder place) lane.log.journal.disk (new.came_back folder place)
  pub others_back : (this_folder : List ℕ) (this : ℕ)
      → is_among folder (length lanes) this_folder this ≡ false
      → new.came_back this_folder this ≡ old.came_back this_folder this
  pub files : SameFiles new.file_bytes old.file_bytes
  pub risen : (place : ℕ) (lane : LaneValue D G) → slice_get lanes place ≡ Some lane
      → 0 < disks.fault_count lane.log.journal.disk → Rose old.faults new.faults
  pub stopped : (place : ℕ) (lane : LaneValue D G) → slice_get lanes place ≡ Some lane
      → lane.log.journal.stopped ≡ true → Rose old.faults new.faults
  pub calm : ((place : ℕ) (lane : LaneValue D G) → slice_get lanes place ≡ Some lane
      → disks.fault_count lane.log.journal.disk ≡ 0) → new.faults ≡ old.faults
  pub rising : old.faults ≤ new.faults

-- no gateway of these lanes was asked anything yet, where it tells that
abbrev pub AreUnasked : {D G : Type 0} → GatewayTold G → List (LaneValue D G) → Type 0
AreUnasked gateways lanes = (place : ℕ) (lane : LaneValue _ _) → slice_get lanes place ≡ Some lane
    → IsUnasked gateways lane.gateway

-- The gateways of lanes were given back, the one at each place as that of the lane of its number: the market
-- tells each, where it tells them, and no call of it failed.
pub record GatewaysAreBack {D G : Type 0} (old new : MarketTold G) (lanes : List (LaneValue D G))
    : Type 0 where
  pub noted : (place : ℕ) (lane : LaneValue D G) → slice_get lanes place ≡ Some lane
      → Notes (old.came_back place) lane.gateway (new.came_back place)
  pub others : (place : ℕ) → length lanes ≤ place → new.came_back place ≡ old.came_back place
  pub calm : new.faults ≡ old.faults

-- The gateway of each lane, if it tells what it was asked, was asked for no payment twice, provided that
-- before the lane was opened it was asked once each, for attempts that the lane had then.
abbrev pub AskedOnceEach : {D G : Type 0} → (G → Option (List Asked)) → List (LaneValue D G) → Type 0
AskedOnceEach asked lanes = (place : ℕ) (lane : LaneValue _ _) → slice_get lanes place ≡ Some lane
    → WasAskedOnce (opened_of lane) (asked lane.gateway) lane.own

-- Each payment that a lane asked for since it was opened has an attempt.
abbrev pub HaveAttemptsEach : {D G : Type 0} → List (LaneValue D G) → Type 0
HaveAttemptsEach lanes = (place : ℕ) (lane : LaneValue _ _) → slice_get lanes place ≡ Some lane
    → HaveAttempts (machine_of lane) lane.own

-- Nothing was opened in a folder: the same lanes are out as before, and no lane has other bytes or was harmed
-- in between.
pub record IsAsBefore {D : Type 0} (disks : DiskTold D) (folder : List ℕ) (old new : VaultTold D)
    : Type 0 where
  pub out : SameLanes new.is_out old.is_out
  pub bytes : (this_folder : List ℕ) (this : ℕ)
      → TellsNoOther (old.lane_bytes this_folder this) (new.lane_bytes this_folder this)
  pub others : (this_folder : List ℕ) (this : ℕ) → is_among folder 64 this_folder this ≡ false
      → new.lane_bytes this_folder this ≡ old.lane_bytes this_folder this
  pub back : (this_folder : List ℕ) (this : ℕ) → ComesBackWhole disks (old.lane_bytes this_folder this)
      (old.came_back this_folder this) (new.came_back this_folder this)
  pub files : SameFiles new.file_bytes old.file_bytes
  pub rising : old.faults ≤ new.faults

-- the header of a lane tells another number of lanes than that of lane 0
abbrev pub TellsOtherLanes : Option (List ℕ) → List ℕ → Type 0
TellsOtherLanes first bytes = IfSome first (λ first. number_at 8 bytes ≢ number_at 8 first)

-- Why no lanes are opened: the vault or a disk of it failed; or memory ran out; or the bytes of this lane
-- are no lane, which shows at this place, or are one of another number of lanes; or the market failed. A
-- fault of form is told before another number of lanes: this is told only of bytes that are otherwise a lane
-- of this number.
abbrev pub IsCause : {D : Type 0} → List ℕ → VaultTold D → VaultTold D → ℕ → ℕ → Unopened → Type 0
IsCause folder old new market_old market_new Disk = Rose old.faults new.faults × (market_new ≡ market_old)
IsCause folder old new market_old market_new NoMemory = (new.faults ≡ old.faults) × (market_new ≡ market_old)
IsCause folder old new market_old market_new (Journal lane at) =
    IfSome (old.lane_bytes folder lane) (λ bytes. IsNoLane lane bytes at
    ⊎ ((at ≡ 8) × TellsOtherLanes (old.lane_bytes folder 0) bytes × IsLaneOf (number_at 8 bytes) lane bytes))
    × (new.faults ≡ old.faults) × (market_new ≡ market_old)
IsCause folder old new market_old market_new Market = (new.faults ≡ old.faults) × Rose market_old market_new

-- the bytes are those of the lane of a number, and as many lanes are told by lane 0
abbrev pub IsLaneBeside : Option (List ℕ) → ℕ → List ℕ → Type 0
IsLaneBeside first number bytes = (count : ℕ) × IsLaneOf count number bytes
    × IfSome first (λ first. number_at 8 first ≡ count)

-- The lane that is told is the first one that can't be opened: each one before it is a lane, of as many as
-- lane 0 tells.
abbrev pub IsFirstOfThem : {D : Type 0} → List ℕ → VaultTold D → Unopened → Type 0
IsFirstOfThem folder old (Journal lane at) = (place : ℕ) → place < lane
    → IfSome (old.lane_bytes folder place) (IsLaneBeside (old.lane_bytes folder 0) place)
IsFirstOfThem folder old other = ⊤
