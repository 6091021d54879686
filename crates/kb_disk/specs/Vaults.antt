-- What a vault gives, and how it counts its faults.
use Rattle.std.specs.Prelude.{ℕ, Bool, IsTrue, List, Result, Ok, Err, ◌≡◌}
use Rattle.kb_base.specs.Faults.{Rose}
use Rattle.kb_disk.specs.Images.{Only}
use Rattle.kb_disk.specs.declared.fault.FileFault.{FileFault}
use Rattle.kb_disk.specs.declared.fault.FileFault.TheVariants.{Failed, NoMemory}

-- A disk is opened over these bytes: it is honest, reads give them, and a crash leaves no others.
pub record Opens {D : Type 0} (honest : D → Bool) (seen : D → List ℕ) (images : D → List ℕ → Type 0)
    (disk : D) (bytes : List ℕ) : Type 0 where
  pub true_to_them : IsTrue (honest disk)
  pub read : seen disk ≡ bytes
  pub synced : Only bytes (images disk)

-- a call that fails is counted, and no other: want of memory is no fault
abbrev pub IsCounted : {A : Type 0} → ℕ → ℕ → Result A FileFault → Type 0
IsCounted old new (Ok value) = new ≡ old
IsCounted old new (Err NoMemory) = new ≡ old
IsCounted old new (Err Failed) = Rose old new
