-- What a crash leaves while the lanes of a folder are made.
use Rattle.std.specs.Prelude.{ℕ, ◌≡◌, ◌<◌, ◌⊎◌, List, Option, IfSome, Result, Ok, Err}
use Rattle.kb_ports.specs.Notes.{Notes}
use Rattle.kb_disk.specs.Places.{SameLanes}
use Rattle.kb_disk.specs.Told.{DiskTold, VaultTold}
use Rattle.kb_catalog_text.specs.Texts.{CatalogText, OverdueText}
use Rattle.kb_codec.specs.Entries.{payloads}
use Rattle.kb_journal.specs.Beginnings.{HasOrBegins}
use Rattle.kb_journal.specs.Format.{StandsFor}
use Rattle.kb_folder.specs.declared.unfounded.Unfounded.{Unfounded}
use Rattle.kb_folder.specs.Foundings.{AreTextsOf, first_commands}

-- At each moment since the disk of a lane was taken out a crash leaves the bytes that the lane had, or, if it
-- had none, the beginning of its journal of these records; where its bytes were told.
abbrev pub CrashesBegin : {D : Type 0} → DiskTold D → ℕ → ℕ → List (List ℕ) → Option (List ℕ) → D → Type 0
CrashesBegin disks lanes lane records told disk = IfSome told (λ bytes. (image : List ℕ)
    → disks.left_since disk 0 image → HasOrBegins lanes lane records bytes image)

-- now a crash leaves the journal of all these records, where the bytes of the lane were told
abbrev pub CrashesWhole : {D : Type 0} → DiskTold D → ℕ → ℕ → List (List ℕ) → Option (List ℕ) → D → Type 0
CrashesWhole disks lanes lane records told disk = IfSome told (λ bytes. (image : List ℕ)
    → disks.images disk image → StandsFor lanes lane records image)

-- The disk of a lane that is made came back, with all its records.
abbrev pub ComesBackMade : {D : Type 0} → DiskTold D → ℕ → ℕ → List (List ℕ) → Option (List ℕ)
    → Option (List D) → Option (List D) → Type 0
ComesBackMade disks lanes lane records told before after = (disk : _) × Notes before disk after
    × CrashesBegin disks lanes lane records told disk × CrashesWhole disks lanes lane records told disk

-- No disk of a lane came back, or one did that was never left with other bytes.
abbrev pub ComesBackBegun : {D : Type 0} → DiskTold D → ℕ → ℕ → List (List ℕ) → Option (List ℕ)
    → Option (List D) → Option (List D) → Type 0
ComesBackBegun disks lanes lane records told before after = (after ≡ before)
    ⊎ ((disk : _) × Notes before disk after × CrashesBegin disks lanes lane records told disk)

-- by whether it is made
abbrev pub ComesBackBy : {D : Type 0} → DiskTold D → ℕ → ℕ → List (List ℕ) → Option (List ℕ)
    → Option (List D) → Option (List D) → Result (Unit {0}) Unfounded → Type 0
ComesBackBy disks lanes lane records told before after (Ok done) =
    ComesBackMade disks lanes lane records told before after
ComesBackBy disks lanes lane records told before after (Err fault) =
    ComesBackBegun disks lanes lane records told before after

-- so each lane of a folder, of so many that were to be made with these records
abbrev pub AllComeBackBy : {D : Type 0} → DiskTold D → List ℕ → ℕ → List (List ℕ) → VaultTold D → VaultTold D
    → Result (Unit {0}) Unfounded → Type 0
AllComeBackBy disks folder lanes records old new result = (lane : ℕ) → lane < lanes
    → ComesBackBy disks lanes lane records (old.lane_bytes folder lane) (old.came_back folder lane)
    (new.came_back folder lane) result

-- with the texts of two files, handed in on a day, as records
abbrev pub ComeBackWith : {D : Type 0} → DiskTold D → ℕ → List ℕ → ℕ → Option (List ℕ) → Option (List ℕ)
    → VaultTold D → VaultTold D → Result (Unit {0}) Unfounded → Type 0
ComeBackWith disks today folder lanes catalog_file overdue_file old new result =
    (catalog : CatalogText) × (overdue : OverdueText)
    × AreTextsOf catalog_file overdue_file catalog overdue
    × AllComeBackBy disks folder lanes (payloads (first_commands today catalog overdue)) old new result

-- Where lanes were to be made, their disks came back so; or none did, as no text was taken.
abbrev pub CrashesWith : {D : Type 0} → DiskTold D → ℕ → List ℕ → ℕ → Option (List ℕ) → Option (List ℕ)
    → VaultTold D → VaultTold D → Result (Unit {0}) Unfounded → Type 0
CrashesWith disks today folder lanes catalog_file overdue_file old new (Ok done) =
    ComeBackWith disks today folder lanes catalog_file overdue_file old new (Ok done)
CrashesWith disks today folder lanes catalog_file overdue_file old new (Err fault) =
    SameLanes new.came_back old.came_back
    ⊎ ComeBackWith disks today folder lanes catalog_file overdue_file old new (Err fault)
