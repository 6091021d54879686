-- What a run of a folder's lanes over lines does.
use Rattle.std.specs.Prelude.{ℕ, ◌≡◌, ◌≤◌, ◌⊎◌, false, true, List, length, slice_get, Option, Some, IfSome, Result}
use Rattle.std.specs.Prelude.{Err}
use Rattle.std.specs.Io.KnownBytes.{Keeps}
use Rattle.kb_base.specs.Faults.{Rose}
use Rattle.kb_disk.specs.Places.{is_among, SameLanes, SameFiles}
use Rattle.kb_disk.specs.Told.{DiskTold, VaultTold}
use Rattle.kb_ports.specs.Notes.{Notes}
use Rattle.kb_gateway.specs.declared.order.Asked.{Asked}
use Rattle.kb_gateway.specs.Told.{MarketTold, payments_asked}
use Rattle.kb_lane.specs.Logs.{HasNoRoom, KeepsAll, StandsForLog}
use Rattle.kb_histories.specs.BilledNow.{AreBilledNow}
use Rattle.kb_histories.specs.EvenNow.{AreEvenNow}
use Rattle.kb_histories.specs.AddUp.{AllAddUp}
use Rattle.kb_histories.specs.OnlyAdded.{BooksGoOn}
use Rattle.kb_histories.specs.Shown.{AreShownIn}
use Rattle.kb_lane.specs.Asking.{AreApart, HaveAttempts, WasAskedOnce}
use Rattle.kb_lane.specs.Lanes.{IsPart, LaneValue, machine_of, opened_of}
use Rattle.kb_runs.specs.Reading.{Known}
use Rattle.kb_runs.specs.declared.run_stop.RunStop.TheVariants as runs
use Rattle.kb_apply.specs.Applying.{Applies}
use Rattle.kb_apply.specs.Determined.{RunsAreDetermined}
use Rattle.kb_desk.specs.Continuing.{Continues, ContinueAll}
use Rattle.kb_desk.specs.Stops.{any_stopped}
use Rattle.kb_apply.specs.LaneRuns.{LanesValue, Outside, lanes_machine}
use Rattle.kb_folder.specs.declared.unopened.Unopened.{Unopened}
use Rattle.kb_folder.specs.declared.unopened.Unopened.TheVariants as unopened
use Rattle.kb_folder.specs.OneLane.{ComesBackUnasked, IsOpened}
use Rattle.kb_folder.specs.Openings.{AreServed, AreUnasked, GatewaysAreBack, IsAsBefore, IsCause, IsFirstOfThem}
use Rattle.kb_runs.specs.declared.stop.Stop.{Stop}
use Rattle.kb_runs.specs.declared.stop.Stop.TheVariants as stops

-- What holds of a lane after whatever commands came: each day of each subscription has exactly the charge
-- that is due, or none, and the invoices of its account total what all days cost; what they show is what
-- charges the days, and the items of each add up to it; credit is exactly by how much payments exceed
-- charges; and its gateway, which was asked nothing before, was asked for no payment twice, and only for
-- attempts that the lane has. It would be so of any gateway that was asked before, once each, for attempts
-- that the lane had when it was opened (`once`).
pub record IsSoundLane {D G : Type 0} (asked : G → Option (List Asked)) (lane : LaneValue D G) : Type 0 where
  pub billed : AreBilledNow (machine_of lane)
  pub shown : AreShownIn (machine_of lane)
  pub added : AllAddUp (machine_of lane)
  pub even : AreEvenNow (machine_of lane)
  pub once : WasAskedOnce (opened_of lane) (asked lane.gateway) lane.own
  pub apart : IfSome (asked lane.gateway) AreApart
  pub attempts : IfSome (asked lane.gateway) (HaveAttempts (machine_of lane))

-- A crash leaves a prefix: at each moment since the disk of a lane was taken out, its opening included, each
-- image stands for the first commands of the lane, at least those with which it was opened, or for all and
-- the one whose append failed. Once all lines are answered, an image stands for all, if no append failed.
pub record LeavesPrefix {D G : Type 0} (disks : DiskTold D) (lane : LaneValue D G) : Type 0 where
  pub always : (image : List ℕ) → disks.left_since lane.log.journal.disk 0 image
      → IsPart lane.log.opened lane.log image
  pub at_end : lane.log.journal.stopped ≡ false → KeepsAll disks.images lane.log

-- The lanes of a folder are opened, each with the history that its bytes stand for and with a gateway that
-- serves it and was asked nothing yet; the lines of the input are answered by them; and their disks and
-- gateways are given back, each as it is then: where the vault and the market tell them, these are those of
-- the last lanes. Each disk has bytes that stand for its lane's last history, or, if an append failed on it,
-- for that or for it and the command whose append failed; and a crash at any moment leaves a prefix. Exactly
-- where an append failed on a lane, the vault counts a fault: so none where each line was answered, or where
-- some lane had no room, which has none for a command of the most bytes then. Nothing else changes in the
-- vault. Items are only added to invoices. The run is the only one: where nothing fails, another one over the
-- same lines and days, from the same commands and with gateways that say the same, writes the same.
pub record RunsLanes {D G C : Type 0} (outside : Outside D G C) (serves : G → ℕ → Type 0)
    (folder : List ℕ) (clock : C) (old new : VaultTold D) (market market_after : MarketTold G)
    (left left_after written written_after : Known) (outcome : Result (Unit {0}) Stop) : Type 0 where
  pub first : List (LaneValue D G)
  pub last : LanesValue D G C
  pub some : 1 ≤ length first
  pub few : length first ≤ 64
  pub opened : (place : ℕ) (lane : LaneValue D G) → slice_get first place ≡ Some lane
      → IsOpened outside.disks (length first) place (old.lane_bytes folder place) lane
  pub served : AreServed serves first
  pub unasked : AreUnasked outside.gateways first
  pub ran : Applies (lanes_machine outside) (record { lanes = first; clock = clock; full = false })
      left left_after written written_after last outcome
  pub determined : RunsAreDetermined outside
  pub further : ContinueAll (Continues outside.disks.honest outside.disks.moment outside.disks.left_since
      outside.disks.fault_count) first last.lanes
  pub invoices : ContinueAll (λ lane next. BooksGoOn (machine_of lane) (machine_of next)) first last.lanes
  pub sound : (place : ℕ) (lane : LaneValue D G) → slice_get last.lanes place ≡ Some lane
      → IsSoundLane (payments_asked outside.gateways) lane
  pub disks_back : (place : ℕ) (lane : LaneValue D G) → slice_get last.lanes place ≡ Some lane
      → Notes (old.came_back folder place) lane.log.journal.disk (new.came_back folder place)
  pub gateways_back : GatewaysAreBack market market_after last.lanes
  pub crash : (place : ℕ) (lane : LaneValue D G) → slice_get last.lanes place ≡ Some lane
      → IfSome (old.lane_bytes folder place) (λ before. LeavesPrefix outside.disks lane)
  pub stands : (place : ℕ) (lane : LaneValue D G) → slice_get last.lanes place ≡ Some lane
      → IfSome (old.lane_bytes folder place) (λ before. IfSome (new.lane_bytes folder place)
      (StandsForLog lane.log))
  pub counted : outcome ≡ Err stops.Disk → Rose old.faults new.faults
  pub caused : any_stopped last.lanes ≡ true → Rose old.faults new.faults
  pub calm : any_stopped last.lanes ≡ false → new.faults ≡ old.faults
  pub filled : outcome ≡ Err stops.Full → (place : ℕ) × (lane : LaneValue D G)
      × (slice_get last.lanes place ≡ Some lane) × HasNoRoom lane.log 65536
  pub inside : SameLanes new.is_out old.is_out
  pub others : (this_folder : List ℕ) (this : ℕ) → is_among folder (length first) this_folder this ≡ false
      → new.lane_bytes this_folder this ≡ old.lane_bytes this_folder this
  pub others_back : (this_folder : List ℕ) (this : ℕ)
      → is_among folder (length first) this_folder this ≡ false
      → new.came_back this_folder this ≡ old.came_back this_folder this
  pub files : SameFiles new.file_bytes old.file_bytes

-- what stops the program where lanes aren't opened
abbrev pub stop_of_unopened : Unopened → Stop
stop_of_unopened unopened.Disk = stops.Disk
stop_of_unopened unopened.NoMemory = stops.Run runs.Memory
stop_of_unopened (unopened.Journal lane at) = stops.Journal lane at
stop_of_unopened unopened.Market = stops.Market

-- The lanes of a folder weren't opened: nothing is read, nothing is written, no lane has other bytes or was
-- harmed in between, and no gateway was asked anything.
pub record LeavesFolder {D G C : Type 0} (outside : Outside D G C) (folder : List ℕ) (old new : VaultTold D)
    (market market_after : MarketTold G) (left left_after written written_after : Known) (fault : Unopened)
    : Type 0 where
  pub cause : IsCause folder old new market.faults market_after.faults fault
  pub in_order : IsFirstOfThem folder old fault
  pub same : IsAsBefore outside.disks folder old new
  pub unasked : (number : ℕ)
      → ComesBackUnasked outside.gateways (market.came_back number) (market_after.came_back number)
  pub unread : Keeps left left_after
  pub unwritten : Keeps written written_after

-- What a run over the lines of the input leaves, by its outcome.
abbrev pub AppliesFolder : {D G C : Type 0} → Outside D G C → (G → ℕ → Type 0) → List ℕ → C → VaultTold D
    → VaultTold D → MarketTold G → MarketTold G → Known → Known → Known → Known → Result (Unit {0}) Stop
    → Type 0
AppliesFolder outside serves folder clock old new market market_after left left_after written written_after
    outcome =
    ((fault : Unopened) × (outcome ≡ Err (stop_of_unopened fault))
    × LeavesFolder outside folder old new market market_after left left_after written written_after fault)
    ⊎ RunsLanes outside serves folder clock old new market market_after left left_after written written_after
    outcome
