-- A lane: its log, what it is yet to do, and what it asked of its gateway.
use Rattle.std.specs.Prelude.{ℕ, ◌≡◌, ◌≤◌, ◌⊎◌, [], ◌∷◌, ◌++◌, Bool, false, IsTrue, List, Option, length}
use Rattle.std.specs.Prelude.{take}
use Rattle.kb_disk.specs.Moments.{AtEachMoment}
use Rattle.kb_journal.specs.Format.{IsWithOrWithout, StandsFor}
use Rattle.kb_gateway.specs.declared.order.Asked.{Asked}
use Rattle.kb_codec.specs.Entries.{Entry, History, payload, payloads}
use Rattle.kb_lane.specs.Logs.{LogValue}
use Rattle.kb_machine.specs.Machines.{MachineValue, no_machine}
use Rattle.kb_machine.specs.Histories.{AreNewFrom, replay}
use Rattle.kb_lane.specs.declared.work.Work.{Work}
use Rattle.kb_lane.specs.Asking.{asks_in, AsksOnce, EndsWith}

-- A lane: what it is yet to do, and what it asked its gateway for since it was opened. Its accounts and texts
-- are those that its log's history leads to.
pub record LaneValue (D G : Type 0) : Type 0 where
  pub log : LogValue D
  pub outbox : List Work
  pub gateway : G
  pub own : List Asked

-- the accounts and texts of a lane
abbrev pub machine_of : {D G : Type 0} → LaneValue D G → MachineValue
machine_of lane = replay lane.log.history

-- those with which it was opened
abbrev pub opened_of : {D G : Type 0} → LaneValue D G → MachineValue
opened_of lane = replay (take lane.log.opened lane.log.history)

-- What always holds of a lane. Its machine is what the history leads to, in which each command was new.
-- What it asked and is yet to ask since it was opened, it asks once; and its gateway was asked this last,
-- where it tells.
pub record IsLane {D G : Type 0} (asked : G → Option (List Asked)) (machine : MachineValue)
    (lane : LaneValue D G) : Type 0 where
  pub replayed : machine ≡ machine_of lane
  pub fresh : AreNewFrom no_machine lane.log.history
  pub early : lane.log.opened ≤ length lane.log.history
  pub once : AsksOnce (opened_of lane) (machine_of lane) lane.own (asks_in lane.outbox)
  pub told : EndsWith (asked lane.gateway) lane.own

-- What no call changes: which lane of how many it is, what it was opened with, and how honest its disk is.
-- The disk's count doesn't fall.
pub record StaysItself {D G : Type 0} (honest : D → Bool) (fault_count : D → ℕ) (old new : LaneValue D G)
    : Type 0 where
  pub lanes : new.log.journal.lanes ≡ old.log.journal.lanes
  pub lane : new.log.journal.lane ≡ old.log.journal.lane
  pub opened : new.log.opened ≡ old.log.opened
  pub faults : new.log.faults ≡ old.log.faults
  pub as_honest : honest new.log.journal.disk ≡ honest old.log.journal.disk
  pub rising : fault_count old.log.journal.disk ≤ fault_count new.log.journal.disk

-- At each moment from one state of a log to a later one, each image of an honest disk stands for the history,
-- with or without a command more, if no append had failed before.
abbrev pub StandsThroughout : {D : Type 0} → (D → Bool) → (D → ℕ) → (D → ℕ → List ℕ → Type 0) → LogValue D
    → LogValue D → Entry → Type 0
StandsThroughout honest moment left_since old new entry = old.journal.stopped ≡ false
    → IsTrue (honest old.journal.disk)
    → AtEachMoment moment left_since old.journal.disk new.journal.disk
    (IsWithOrWithout old.journal.lanes old.journal.lane (payloads old.history) (payload entry))

-- An image stands for the first commands of a log, at least so many.
abbrev pub IsPast : {D : Type 0} → ℕ → LogValue D → List ℕ → Type 0
IsPast least log image = (some : History) × (rest : History) × (log.history ≡ some ++ rest)
    × (least ≤ length some) × StandsFor log.journal.lanes log.journal.lane (payloads some) image

-- It does, or stands for all of them and the one whose append failed.
abbrev pub IsPart : {D : Type 0} → ℕ → LogValue D → List ℕ → Type 0
IsPart least log image = IsPast least log image
    ⊎ ((entry : Entry) × (log.failed ≡ entry ∷ [])
    × StandsFor log.journal.lanes log.journal.lane (payloads log.history ++ payload entry ∷ []) image)

-- At each moment from one state of a log to a later one, if no append had failed before, an honest disk is
-- as it was, or each image stands for the earlier history, for that and the first of the commands that came
-- since, or for all of them and the one whose append failed.
abbrev pub StandsWithin : {D : Type 0} → (D → Bool) → (D → ℕ) → (D → ℕ → List ℕ → Type 0) → LogValue D
    → LogValue D → Type 0
StandsWithin honest moment left_since old new = old.journal.stopped ≡ false
    → IsTrue (honest old.journal.disk)
    → (new.journal.disk ≡ old.journal.disk)
    ⊎ AtEachMoment moment left_since old.journal.disk new.journal.disk (IsPart (length old.history) new)
