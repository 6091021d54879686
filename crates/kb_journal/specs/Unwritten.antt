-- Disks that nobody wrote to.
use Rattle.std.specs.Prelude.{ℕ, ◌≡◌, ◌≤◌, Bool, List}
use Rattle.kb_disk.specs.Images.{IsAmong}
use Rattle.kb_disk.specs.Moments.{AtEachMoment}

-- From one state of a disk to a later one it was only read or synced: it is as honest as it was, and at each
-- moment since a crash leaves nothing that it didn't leave before. Its count of faults didn't fall.
pub record IsUnwritten {D : Type 0} (honest : D → Bool) (images : D → List ℕ → Type 0) (moment : D → ℕ)
    (left_since : D → ℕ → List ℕ → Type 0) (faults : D → ℕ) (old new : D) : Type 0 where
  pub as_honest : honest new ≡ honest old
  pub no_other : IsAmong (images new) (images old)
  pub moments : AtEachMoment moment left_since old new (images old)
  pub rising : faults old ≤ faults new
