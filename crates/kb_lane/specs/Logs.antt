-- A log: the commands that a journal has, and the one whose append failed.
use Rattle.std.specs.Prelude.{ℕ, ◌≡◌, ◌≤◌, ◌<◌, ◌+◌, ◌⊎◌, Bool, true, false, IsTrue, List, [], ◌∷◌, ◌++◌, length}
use Rattle.std.specs.Prelude.{Result, Ok, Err}
use Rattle.kb_base.specs.Faults.{Rose}
use Rattle.kb_journal.specs.Format.{IsWithOrWithout, StandsFor, body}
use Rattle.kb_journal.specs.Keeping.{JournalValue, Holds, most_records, most_bytes}
use Rattle.kb_journal.specs.declared.fault.AppendFault.{AppendFault}
use Rattle.kb_journal.specs.declared.fault.AppendFault.TheVariants.{Stopped, Full, DiskFault}
use Rattle.kb_codec.specs.Entries.{Entry, History, payload, payloads}

-- The journal; the commands that are acknowledged; the one whose append failed, if one did; how many commands
-- there were when the log was opened, and how many calls of the disk had failed by then.
pub record LogValue (D : Type 0) : Type 0 where
  pub journal : JournalValue D
  pub history : History
  pub failed : History
  pub opened : ℕ
  pub faults : ℕ

-- how many bytes the commands of a log take in its journal, up to the last gate
abbrev pub written_size : {D : Type 0} → LogValue D → ℕ
written_size log = length (body log.journal.lanes log.journal.lane (payloads log.history))

-- With a command of so many bytes more, a history has more than the most commands, or takes more than the most
-- bytes.
abbrev pub HasNoRoom : {D : Type 0} → LogValue D → ℕ → Type 0
HasNoRoom log size = (most_records < length log.history + 1) ⊎ (most_bytes < written_size log + size + 6)

-- it has none for a command of so many bytes, which are no more than a record may have
abbrev pub IsTooFullFor : {D : Type 0} → LogValue D → ℕ → Type 0
IsTooFullFor log size = (size ≤ 65536) × HasNoRoom log size

-- Each image of a stopped log's disk stands for its history, or for that and the command whose append failed.
abbrev pub IsTorn : {D : Type 0} → (D → List ℕ → Type 0) → LogValue D → Entry → Type 0
IsTorn images log entry = (image : List ℕ) → images log.journal.disk image
    → IsWithOrWithout log.journal.lanes log.journal.lane (payloads log.history) (payload entry) image

-- What always holds of a log. Its journal has as many records as the history has commands, and the disk's
-- count doesn't fall. As long as no append has failed, the last gate stands behind the header and the
-- commands, no call of the disk has failed since the log was opened, an honest disk keeps the payloads, and no
-- command is marked. Once one has failed, its command is marked, no other one is ever, and the disk's count
-- has risen since the log was opened.
pub record IsLog {D : Type 0} (honest : D → Bool) (seen : D → List ℕ) (images : D → List ℕ → Type 0)
    (fault_count : D → ℕ) (log : LogValue D) : Type 0 where
  pub counted : log.journal.count ≡ length log.history
  pub early : log.opened ≤ length log.history
  pub rising : log.faults ≤ fault_count log.journal.disk
  pub measured : log.journal.stopped ≡ false
      → log.journal.gate ≡ length (body log.journal.lanes log.journal.lane (payloads log.history))
  pub calm : log.journal.stopped ≡ false → fault_count log.journal.disk ≡ log.faults
  pub held : log.journal.stopped ≡ false → IsTrue (honest log.journal.disk)
      → Holds honest seen images log.journal (payloads log.history)
  pub unmarked : log.journal.stopped ≡ false → log.failed ≡ []
  pub marked : log.journal.stopped ≡ true → (entry : Entry) × (log.failed ≡ entry ∷ [])
      × (IsTrue (honest log.journal.disk) → IsTorn images log entry)
  pub caused : log.journal.stopped ≡ true → Rose log.faults (fault_count log.journal.disk)

-- What the bytes of an honest disk stand for: the history; or, once an append has failed, that or it and
-- the command whose append failed.
abbrev pub StandsForLog : {D : Type 0} → LogValue D → List ℕ → Type 0
StandsForLog log bytes =
    ((log.journal.stopped ≡ false) × StandsFor log.journal.lanes log.journal.lane
    (payloads log.history) bytes)
    ⊎ ((entry : Entry) × (log.failed ≡ entry ∷ [])
    × IsWithOrWithout log.journal.lanes log.journal.lane (payloads log.history) (payload entry) bytes)

-- Each image of a log's disk stands for its history.
abbrev pub KeepsAll : {D : Type 0} → (D → List ℕ → Type 0) → LogValue D → Type 0
KeepsAll images log = (image : List ℕ) → images log.journal.disk image
    → StandsFor log.journal.lanes log.journal.lane (payloads log.history) image

-- an append may begin: none has failed, and the record has room
abbrev pub MayAppend : {D : Type 0} → LogValue D → ℕ → Type 0
MayAppend log size = (log.journal.stopped ≡ false) × (HasNoRoom log size → ⊥)

-- What an append of a command with so many bytes leaves, by what it answers: the command is acknowledged;
-- or one had failed before; or there is no room; or the disk failed, and the command is marked.
abbrev pub Appends : {D : Type 0} → (D → ℕ) → LogValue D → LogValue D → Entry → ℕ
    → Result (Unit {0}) AppendFault → Type 0
Appends fault_count old new entry size (Ok done) = MayAppend old size × (new.journal.stopped ≡ false)
    × (new.history ≡ old.history ++ entry ∷ []) × (new.failed ≡ old.failed)
    × (fault_count new.journal.disk ≡ fault_count old.journal.disk)
Appends fault_count old new entry size (Err (Stopped count)) = (old.journal.stopped ≡ true)
    × (count ≡ length old.history) × (new ≡ old)
Appends fault_count old new entry size (Err (Full commands bytes)) = (old.journal.stopped ≡ false)
    × IsTooFullFor old size × (commands ≡ length old.history) × (bytes ≡ written_size old + 1) × (new ≡ old)
Appends fault_count old new entry size (Err DiskFault) = MayAppend old size × (new.journal.stopped ≡ true)
    × (new.history ≡ old.history) × (new.failed ≡ entry ∷ [])
    × Rose (fault_count old.journal.disk) (fault_count new.journal.disk)
