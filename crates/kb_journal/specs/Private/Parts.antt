-- Records that were read from bytes, and where that ended.
use Rattle.std.specs.Prelude.{ℕ, zero, suc, ◌≡◌, ◌≤◌, ◌<◌, ◌+◌, Bool, IsTrue, ⊤, List, ◌∷◌, ◌++◌, length}
use Rattle.std.specs.Prelude.{drop}
use Rattle.kb_base.specs.Faults.{Rose}
use Rattle.kb_journal.specs.declared.fault.LoadFault.{LoadFault}
use Rattle.kb_journal.specs.declared.fault.LoadFault.TheVariants.{NotAJournal, DiskFault, NoMemory}
use Rattle.kb_journal.specs.Format.{blocks, AreSized}
use Rattle.kb_journal.specs.Reading.{told_size, IsCutShort}
use Rattle.kb_journal.specs.Private.Records.{behind_first}

-- These records were read from bytes that begin at a gate; the next gate stands at this place.
pub record AreRead (records : List (List ℕ)) (place : ℕ) (bytes : List ℕ) : Type 0 where
  pub sized : AreSized records
  pub parts : bytes ≡ blocks records ++ drop place bytes
  pub placed : place ≡ length (blocks records)
  pub more : place < length bytes

-- bytes have so many records, each as long as it tells
unfoldable pub AreThere : ℕ → List ℕ → Type 0
AreThere zero bytes = ⊤
AreThere (suc count) bytes =
    (told_size (drop 1 bytes) + 5 ≤ length bytes) × AreThere count (behind_first bytes)

-- So many records were read from bytes, and the next gate stands at this place.
pub record IsEnd (count place : ℕ) (bytes : List ℕ) : Type 0 where
  pub records : List (List ℕ)
  pub read : AreRead records place bytes
  pub counted : count ≡ length records
  pub few : count ≤ place

-- The gate at this place is open, behind some records, and the record behind it is cut short.
pub record IsCutBehind (bytes : List ℕ) (place : ℕ) : Type 0 where
  pub records : List (List ℕ)
  pub read : AreRead records place bytes
  pub rest : List ℕ
  pub open_gate : drop place bytes ≡ 1 ∷ rest
  pub cut : IsCutShort rest

-- why the bytes of a disk aren't read
abbrev pub StopsBefore : {D : Type 0} → (D → Bool) → (D → List ℕ) → (D → ℕ) → D → D → LoadFault → Type 0
StopsBefore honest seen faults old new (NotAJournal at) = ⊥
StopsBefore honest seen faults old new DiskFault = Rose (faults old) (faults new)
StopsBefore honest seen faults old new NoMemory =
    (IsTrue (honest old) → seen new ≡ seen old) × (faults new ≡ faults old)
