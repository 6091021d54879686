-- A disk in memory: the record of its calls, and what they made of its bytes and images.
use Rattle.std.specs.Prelude.{ℕ, ◌≡◌, ◌≤◌, ◌⊎◌, Option, None, Some, Bool, IsTrue, true, false, if◌then◌else◌}
use Rattle.std.specs.Prelude.{List, [], ◌∷◌, ◌++◌, length, take, refl}
use Rattle.std.proofs.Common.{lit≤}
use Rattle.kb_base.specs.Faults.{next_count}
use Rattle.kb_ports.specs.Memory.{fails_next}
use Rattle.kb_disk.specs.declared.note.DiskCall.{DiskCall}
use Rattle.kb_disk.specs.declared.note.DiskCall.TheVariants.{Size, Read, Write, Cut, Sync}
use Rattle.kb_disk.specs.declared.note.DiskNote.{DiskNote}
use Rattle.kb_disk.specs.Images.{overwritten, Torn, CutDown}
use Rattle.kb_disk.specs.Told.{DiskTold}

-- The calls of a disk: a note of each, the numbers of those that are to fail, how many were made and how many
-- failed, and whether a note found no room. From then on each call fails and none is noted.
pub record LogValue : Type 0 where
  pub notes : List DiskNote
  pub failing : List ℕ
  pub made : ℕ
  pub faults : ℕ
  pub lost : Bool

-- no call yet, and these are to fail
abbrev pub empty_log : List ℕ → LogValue
empty_log failing = record { notes = []; failing = failing; made = 0; faults = 0; lost = false }

-- after a call, which failed or didn't, and for whose note there was no room or there was
abbrev pub after_call : LogValue → DiskCall → Bool → Bool → LogValue
after_call log call failed lost = record log {
  notes = if lost then log.notes else log.notes ++ record { call = call; failed = failed } ∷ [];
  made = next_count log.made;
  faults = if failed then next_count log.faults else log.faults;
  lost = lost;
}

one_sync_failed : after_call (empty_log (1 ∷ [])) Sync true false ≡ record {
  notes = record { call = Sync; failed = true } ∷ [];
  failing = 1 ∷ [];
  made = 1;
  faults = 1;
  lost = false;
}
one_sync_failed = refl

-- The bytes that a disk began with, all of them synced, and its calls since.
pub record DiskValue : Type 0 where
  pub first : List ℕ
  pub log : LogValue

-- what a call that succeeds makes of the bytes
abbrev pub bytes_after_call : List ℕ → DiskCall → List ℕ
bytes_after_call bytes (Write at more) = overwritten bytes at more
bytes_after_call bytes (Cut size) = take size bytes
bytes_after_call bytes call = bytes

-- a call that fails changes no byte
abbrev pub bytes_after_note : List ℕ → DiskNote → List ℕ
bytes_after_note bytes note = if note.failed then bytes else bytes_after_call bytes note.call

-- what the calls make of the first bytes
abbrev pub bytes_after : List ℕ → List DiskNote → List ℕ
bytes_after bytes [] = bytes
bytes_after bytes (note ∷ notes) = bytes_after (bytes_after_note bytes note) notes

written_and_cut : bytes_after (1 ∷ 2 ∷ [])
    (record { call = Write 1 (8 ∷ 9 ∷ []); failed = false } ∷ record { call = Cut 0; failed = true }
    ∷ record { call = Cut 2; failed = false } ∷ []) ≡ 1 ∷ 8 ∷ []
written_and_cut = refl

-- What a crash may leave after a call, from what a read gave and what a crash might have left before it. A
-- write or a cut that fails may be half there; only a sync that succeeds leaves no more than a read gives.
abbrev pub Leaves : List ℕ → (List ℕ → Type 0) → DiskCall → Bool → List ℕ → Type 0
Leaves bytes images Size failed image = images image
Leaves bytes images (Read at size) failed image = images image
Leaves bytes images (Write at more) failed image = (old : List ℕ) × images old
    × Torn at (length more) old image
Leaves bytes images (Cut size) failed image = (old : List ℕ) × images old × CutDown size old image
Leaves bytes images Sync true image = images image
Leaves bytes images Sync false image = image ≡ bytes

-- what a crash may leave after the calls, from what it might have left before them
abbrev pub LeavesAfter : List ℕ → (List ℕ → Type 0) → List DiskNote → List ℕ → Type 0
LeavesAfter bytes images [] image = images image
LeavesAfter bytes images (note ∷ notes) image =
    LeavesAfter (bytes_after_note bytes note) (Leaves bytes images note.call note.failed) notes image

-- what a crash may leave of a disk that began with these bytes, all of them synced, and had these calls since
abbrev pub IsImage : List ℕ → List DiskNote → List ℕ → Type 0
IsImage first notes image = LeavesAfter first (λ (bytes : List ℕ). bytes ≡ first) notes image

torn_image : IsImage (1 ∷ 2 ∷ 3 ∷ []) (record { call = Write 0 (8 ∷ 9 ∷ []); failed = true } ∷ [])
    (1 ∷ 9 ∷ 3 ∷ [])
torn_image = (
  1 ∷ 2 ∷ 3 ∷ [],
  refl,
  record { before = refl; no_shorter = lit≤ tt; no_longer = lit≤ tt; after = refl },
)

synced_image : IsImage (1 ∷ 2 ∷ []) (record { call = Write 0 (8 ∷ []); failed = false }
    ∷ record { call = Sync; failed = false } ∷ []) (8 ∷ 2 ∷ [])
synced_image = refl

-- what a crash may have left since so many calls
abbrev pub WasLeft : List ℕ → List DiskNote → ℕ → List ℕ → Type 0
WasLeft first notes time image = (count : ℕ) × (time ≤ count) × (count ≤ length notes)
    × IsImage first (take count notes) image

-- what a read of the disk gives
abbrev pub seen : DiskValue → List ℕ
seen disk = bytes_after disk.first disk.log.notes

-- what a crash now may leave of the disk
abbrev pub images : DiskValue → List ℕ → Type 0
images disk = IsImage disk.first disk.log.notes

-- a moment is a number of calls
abbrev pub moment : DiskValue → ℕ
moment disk = length disk.log.notes

-- what a crash may have left since a moment
abbrev pub left_since : DiskValue → ℕ → List ℕ → Type 0
left_since disk = WasLeft disk.first disk.log.notes

-- the disk after a call, which failed or didn't, and for whose note there was no room or there was
abbrev pub after : DiskValue → DiskCall → Bool → Bool → DiskValue
after disk call failed lost = record disk { log = after_call disk.log call failed lost }

-- a call fails if its number is among the failing ones, or if a note found no room, now or before
abbrev pub Fails : LogValue → LogValue → Type 0
Fails old new = IsTrue (fails_next old.failing old.made) ⊎ IsTrue new.lost

-- a disk of these bytes, all of them synced, before any call
abbrev pub fresh : List ℕ → List ℕ → DiskValue
fresh bytes failing = record { first = bytes; log = empty_log failing }

-- the notes, which are told as long as each call found room for its own
abbrev pub told : LogValue → Option (List DiskNote)
told log = if log.lost then None else Some log.notes

-- what a disk in memory tells: it is honest
abbrev pub memory_told : DiskTold DiskValue
memory_told = record {
  honest = λ disk. true;
  seen = seen;
  images = images;
  moment = moment;
  left_since = left_since;
  fault_count = λ disk. disk.log.faults;
}
