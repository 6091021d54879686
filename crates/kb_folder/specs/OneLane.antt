-- One lane of a folder, opened or not, and given back.
use Rattle.std.specs.Prelude.{◌∷◌, refl, ℕ, ◌≡◌, ◌≢◌, ◌≤◌, ◌<◌, ◌⊎◌, true, false, ⊤, List, [], length, Option}
use Rattle.std.specs.Prelude.{Some, None, IfSome}
use Rattle.kb_base.specs.Faults.{Rose}
use Rattle.kb_ports.specs.Notes.{Notes}
use Rattle.kb_disk.specs.Places.{with_lane, SameLanes, SameFiles}
use Rattle.kb_disk.specs.Images.{Only}
use Rattle.kb_disk.specs.Vaults.{Opens}
use Rattle.kb_disk.specs.Told.{DiskTold, VaultTold}
use Rattle.kb_gateway.specs.Told.{GatewayTold, IsUnasked, MarketTold}
use Rattle.kb_journal.specs.Format.{StandsFor}
use Rattle.kb_journal.specs.Reading.{number_at}
use Rattle.kb_codec.specs.Entries.{History, payloads}
use Rattle.kb_machine.specs.Machines.{no_machine}
use Rattle.kb_machine.specs.Histories.{AreNewFrom}
use Rattle.kb_lane.specs.Lanes.{LaneValue}
use Rattle.kb_lane.specs.Loads.{IsNoLane}
use Rattle.kb_folder.specs.declared.unopened.Unopened.{Unopened}
use Rattle.kb_folder.specs.declared.unopened.Unopened.TheVariants.{Disk, NoMemory, Journal, Market}

-- at each moment since a disk was taken out a crash leaves these bytes, where they are told
abbrev pub KeepsBytes : {D : Type 0} → DiskTold D → Option (List ℕ) → D → Type 0
KeepsBytes disks told disk = IfSome told (λ bytes. Only bytes (disks.left_since disk 0))

-- No disk came back, or one did that is unharmed, where that is told.
abbrev pub ComesBackWhole : {D : Type 0} → DiskTold D → Option (List ℕ) → Option (List D)
    → Option (List D) → Type 0
ComesBackWhole disks told before after = (after ≡ before)
    ⊎ ((disk : _) × Notes before disk after × KeepsBytes disks told disk)

-- A lane was opened as the one of this number among so many: it has done and asked nothing yet, and no call
-- of its disk has failed. If its bytes were told, its disk is open over them and unharmed, and its history is
-- what they stand for. Each of its commands is new to those before it.
pub record IsOpened {D G : Type 0} (disks : DiskTold D) (count number : ℕ) (told : Option (List ℕ))
    (lane : LaneValue D G) : Type 0 where
  pub place : lane.log.journal.lane ≡ number
  pub one_of_them : lane.log.journal.lanes ≡ count
  pub running : lane.log.journal.stopped ≡ false
  pub idle : lane.outbox ≡ []
  pub unasked : lane.own ≡ []
  pub opened : lane.log.opened ≡ length lane.log.history
  pub calm : disks.fault_count lane.log.journal.disk ≡ 0
  pub faults : lane.log.faults ≡ 0
  pub bytes : IfSome told (Opens disks.honest disks.seen disks.images lane.log.journal.disk)
  pub unharmed : KeepsBytes disks told lane.log.journal.disk
  pub stands : IfSome told (StandsFor count number (payloads lane.log.history))
  pub fresh : AreNewFrom no_machine lane.log.history

-- where bytes are told before and after, they are the same
abbrev pub TellsNoOther : Option (List ℕ) → Option (List ℕ) → Type 0
TellsNoOther None after = ⊤
TellsNoOther (Some before) None = ⊤
TellsNoOther (Some before) (Some after) = after ≡ before

-- bytes that can't be read any more are no other ones
told_no_more : TellsNoOther (Some (7 ∷ [])) None
told_no_more = tt

-- A lane is taken out of a folder, and opened.
pub record TakesOut {D G : Type 0} (disks : DiskTold D) (folder : List ℕ) (count number : ℕ)
    (old new : VaultTold D) (lane : LaneValue D G) : Type 0 where
  pub opened : IsOpened disks count number (old.lane_bytes folder number) lane
  pub out : SameLanes new.is_out (with_lane old.is_out folder number true)
  pub bytes : SameLanes new.lane_bytes (with_lane old.lane_bytes folder number None)
  pub came_back : SameLanes new.came_back old.came_back
  pub files : SameFiles new.file_bytes old.file_bytes
  pub calm : new.faults ≡ old.faults

-- A disk is given back as that of a lane.
pub record TakesBack {D : Type 0} (disks : DiskTold D) (folder : List ℕ) (number : ℕ) (old new : VaultTold D)
    (disk : D) : Type 0 where
  pub inside : SameLanes new.is_out (with_lane old.is_out folder number false)
  pub bytes : IfSome (new.lane_bytes folder number) (λ bytes. bytes ≡ disks.seen disk)
  pub others : SameLanes new.lane_bytes (with_lane old.lane_bytes folder number
      (new.lane_bytes folder number))
  pub noted : Notes (old.came_back folder number) disk (new.came_back folder number)
  pub others_back : SameLanes new.came_back (with_lane old.came_back folder number
      (new.came_back folder number))
  pub files : SameFiles new.file_bytes old.file_bytes
  pub risen : 0 < disks.fault_count disk → Rose old.faults new.faults
  pub calm : disks.fault_count disk ≡ 0 → new.faults ≡ old.faults
  pub rising : old.faults ≤ new.faults

-- A gateway is given back as that of a lane: it is told, where the market tells them, and no call failed.
pub record GatewayIsBack {G : Type 0} (number : ℕ) (old new : MarketTold G) (gateway : G) : Type 0 where
  pub noted : Notes (old.came_back number) gateway (new.came_back number)
  pub others : (other : ℕ) → other ≢ number → new.came_back other ≡ old.came_back other
  pub calm : new.faults ≡ old.faults

-- no gateway of a lane came back, or one did that was asked nothing, where that is told
abbrev pub ComesBackUnasked : {G : Type 0} → GatewayTold G → Option (List G) → Option (List G) → Type 0
ComesBackUnasked gateways before after = (after ≡ before)
    ⊎ ((gateway : _) × Notes before gateway after × IsUnasked gateways gateway)

-- The gateway of a lane that isn't opened was asked nothing.
pub record GatewayIsLeft {G : Type 0} (gateways : GatewayTold G) (number : ℕ) (old new : MarketTold G)
    : Type 0 where
  pub back : ComesBackUnasked gateways (old.came_back number) (new.came_back number)
  pub others : (other : ℕ) → other ≢ number → new.came_back other ≡ old.came_back other

-- The lane of a number is where it was, without other bytes, and unharmed in between.
pub record IsLeftIn {D : Type 0} (disks : DiskTold D) (folder : List ℕ) (number : ℕ) (old new : VaultTold D)
    : Type 0 where
  pub out : SameLanes new.is_out old.is_out
  pub bytes : TellsNoOther (old.lane_bytes folder number) (new.lane_bytes folder number)
  pub others : SameLanes new.lane_bytes (with_lane old.lane_bytes folder number
      (new.lane_bytes folder number))
  pub back : ComesBackWhole disks (old.lane_bytes folder number) (old.came_back folder number)
      (new.came_back folder number)
  pub others_back : SameLanes new.came_back (with_lane old.came_back folder number
      (new.came_back folder number))
  pub files : SameFiles new.file_bytes old.file_bytes
  pub rising : old.faults ≤ new.faults

-- the bytes are those of the lane of a number, of so many: they stand for commands, each new to those
-- before it
abbrev pub IsLaneOf : ℕ → ℕ → List ℕ → Type 0
IsLaneOf count number bytes = (history : History) × StandsFor count number (payloads history) bytes
    × AreNewFrom no_machine history

-- Why the lane of this number, of so many and with these bytes, isn't opened. A fault of their form is told
-- before another number of lanes: this is told only of bytes that are otherwise a lane of this number.
abbrev pub IsLaneCause : ℕ → ℕ → Option (List ℕ) → ℕ → ℕ → ℕ → ℕ → Unopened → Type 0
IsLaneCause count number told old new market_old market_new Disk = Rose old new × (market_new ≡ market_old)
IsLaneCause count number told old new market_old market_new NoMemory = (new ≡ old) × (market_new ≡ market_old)
IsLaneCause count number told old new market_old market_new (Journal lane at) =
    (lane ≡ number)
    × IfSome told (λ bytes. IsNoLane number bytes at
    ⊎ ((at ≡ 8) × (number_at 8 bytes ≢ count) × IsLaneOf (number_at 8 bytes) number bytes))
    × (new ≡ old) × (market_new ≡ market_old)
IsLaneCause count number told old new market_old market_new Market = (new ≡ old) × Rose market_old market_new

-- memory ran out, and neither the vault nor the market has failed
out_of_memory : IsLaneCause 2 1 None 3 3 5 5 NoMemory
out_of_memory = (refl, refl)

-- a lane isn't opened, and is where it was
abbrev pub IsRefused : {D : Type 0} → DiskTold D → List ℕ → ℕ → ℕ → VaultTold D → VaultTold D → ℕ → ℕ
    → Unopened → Type 0
IsRefused disks folder count number old new market_old market_new fault =
    IsLeftIn disks folder number old new
    × IsLaneCause count number (old.lane_bytes folder number) old.faults new.faults market_old
    market_new fault
