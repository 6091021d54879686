-- A journal on a disk, and what it holds.
use Rattle.std.specs.Prelude.{ℕ, ◌≡◌, ◌≤◌, ◌<◌, ◌+◌, ◌-◌, ◌^◌, ◌⊎◌, Bool, false, IsTrue, List, length}
use Rattle.kb_base.specs.Faults.{Rose}
use Rattle.kb_disk.specs.Images.{Only, IsAmong}
use Rattle.kb_journal.specs.declared.fault.CreateFault.{CreateFault}
use Rattle.kb_journal.specs.declared.fault.CreateFault.TheVariants.{NotEmpty, DiskFault}
use Rattle.kb_journal.specs.declared.fault.LoadFault.{LoadFault}
use Rattle.kb_journal.specs.declared.fault.LoadFault.TheVariants.{NotAJournal, NoMemory}
use Rattle.kb_journal.specs.declared.fault.LoadFault.TheVariants as load
use Rattle.kb_journal.specs.Format.{StandsFor, body}
use Rattle.kb_journal.specs.Reading.{IsNoJournal}

-- A journal: its disk, the number of lanes and its lane, how many records were acknowledged, the place of the
-- last gate, and whether an append has failed. From then on no append begins.
pub record JournalValue (D : Type 0) : Type 0 where
  pub disk : D
  pub lanes : ℕ
  pub lane : ℕ
  pub count : ℕ
  pub gate : ℕ
  pub stopped : Bool

-- A disk keeps some records, with the last gate at this place: it is honest, its bytes stand for them, and a
-- crash leaves these bytes.
pub record Keeps {D : Type 0} (honest : D → Bool) (seen : D → List ℕ) (images : D → List ℕ → Type 0)
    (disk : D) (lanes lane gate : ℕ) (records : List (List ℕ)) : Type 0 where
  pub honest_disk : IsTrue (honest disk)
  pub stands : StandsFor lanes lane records (seen disk)
  pub durable : Only (seen disk) (images disk)
  pub placed : gate ≡ length (body lanes lane records)

-- A journal holds some records: no append has failed, its disk keeps them, and all were acknowledged.
pub record Holds {D : Type 0} (honest : D → Bool) (seen : D → List ℕ) (images : D → List ℕ → Type 0)
    (journal : JournalValue D) (records : List (List ℕ)) : Type 0 where
  pub running : journal.stopped ≡ false
  pub kept : Keeps honest seen images journal.disk journal.lanes journal.lane journal.gate records
  pub counted : journal.count ≡ length records

-- the most records, and the most bytes up to and with the last gate
abbrev pub most_records : ℕ
most_records = 2 ^ 32 - 1

abbrev pub most_bytes : ℕ
most_bytes = 2 ^ 40

-- with a record of so many bytes more the journal would pass one of them
abbrev pub IsFull : {D : Type 0} → JournalValue D → ℕ → Type 0
IsFull journal size = (most_records < journal.count + 1) ⊎ (most_bytes < journal.gate + size + 6)

-- The last gate stands where a journal says, as long as no append has failed.
pub record IsSound {D : Type 0} (honest : D → Bool) (seen : D → List ℕ)
    (journal : JournalValue D) : Type 0 where
  pub in_range : journal.gate < 2 ^ 63
  pub there : IsTrue (honest journal.disk) → journal.stopped ≡ false
      → journal.gate + 1 ≤ length (seen journal.disk)

-- What a journal that isn't made says of the disk that it gives back. A disk with bytes is as it was.
abbrev pub RefusesToCreate : {D : Type 0} → (D → Bool) → (D → List ℕ) → (D → List ℕ → Type 0) → (D → ℕ) → D
    → CreateFault → D → Type 0
RefusesToCreate honest seen images faults old NotEmpty new =
    (IsTrue (honest old) → (0 < length (seen old)) × (seen new ≡ seen old))
    × IsAmong (images new) (images old) × (faults new ≡ faults old)
RefusesToCreate honest seen images faults old DiskFault new = Rose (faults old) (faults new)

-- What a journal that isn't loaded says of the disk that it gives back. Its bytes are as they were, unless
-- the disk failed.
abbrev pub RefusesToLoad : {D : Type 0} → (D → Bool) → (D → List ℕ) → (D → ℕ) → ℕ → D → LoadFault → D → Type 0
RefusesToLoad honest seen faults lane old (NotAJournal at) new =
    (IsTrue (honest old) → IsNoJournal lane (seen old) at × (seen new ≡ seen old)) × (faults new ≡ faults old)
RefusesToLoad honest seen faults lane old load.DiskFault new = Rose (faults old) (faults new)
RefusesToLoad honest seen faults lane old NoMemory new =
    (IsTrue (honest old) → seen new ≡ seen old) × (faults new ≡ faults old)

-- what a load answers whose bytes show at this place that they are no journal: this place, unless it failed
-- before
abbrev pub TellsPlace : ℕ → LoadFault → Type 0
TellsPlace at (NotAJournal told) = told ≡ at
TellsPlace at load.DiskFault = Unit {0}
TellsPlace at NoMemory = Unit {0}
