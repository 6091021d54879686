-- What the log of a disk in memory says of each call, in the form in which a disk says it.
use Rattle.std.specs.Prelude.{⊤, List, ℕ, length}
use Rattle.kb_disk.specs.declared.note.DiskCall.{DiskCall}
use Rattle.kb_disk.specs.declared.note.DiskCall.TheVariants.{Write, Cut, Sync}
use Rattle.kb_disk.specs.declared.note.DiskNote.{DiskNote}
use Rattle.kb_disk.specs.Images.{Torn, CutDown, Follows, IsAmong, Only}
use Rattle.kb_disk.specs.Moments.{Elapses}
use Rattle.kb_disk.specs.Memory.{IsImage, WasLeft}

-- the images after a call come of those before it
abbrev pub Steps : DiskCall → (List ℕ → Type 0) → (List ℕ → Type 0) → Type 0
Steps (Write at more) before after = Follows (Torn at (length more)) before after
Steps (Cut size) before after = Follows (CutDown size) before after
Steps call before after = IsAmong after before

-- a sync that succeeds leaves one image
abbrev pub Settles : DiskCall → List ℕ → (List ℕ → Type 0) → Type 0
Settles Sync bytes after = Only bytes after
Settles call bytes after = ⊤

-- time goes on from these notes to those
abbrev pub NotesElapse : List ℕ → List DiskNote → List DiskNote → Type 0
NotesElapse first old new =
    Elapses (length old) (length new) (WasLeft first old) (WasLeft first new) (IsImage first new)
