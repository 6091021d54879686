-- A disk that is given back has the bytes that it had.
use Rattle.std.proofs.Common.{◌≡◌, ℕ, Bool, IsTrue, List, Option, Some, None, IfSome, inr, refl, sym}
use Rattle.std.proofs.Common.{subst, ◌∙◌}
use Rattle.kb_disk.specs.Images.{IsAmong}
use Rattle.kb_disk.specs.Vaults.{Opens}
use Rattle.kb_disk.specs.Told.{DiskTold, VaultTold}
use Rattle.kb_folder.specs.OneLane.{KeepsBytes, TellsNoOther, TakesBack}
use Rattle.kb_folder.specs.Private.Unmade.{IsGivenBack}

-- what is read of an honest disk that was only synced and read is what was read of it before
pub read_again : {D : Type 0} (honest : D → Bool) (seen : D → List ℕ)
    (images : D → List ℕ → Type 0) (old new : D)
    (bytes : List ℕ) → ((disk : D) → IsTrue (honest disk) → images disk (seen disk))
    → Opens honest seen images old bytes
    → honest new ≡ honest old → IsAmong (images new) (images old) → seen new ≡ bytes
read_again honest seen images old new bytes law opens as_honest no_other =
    opens.synced (seen new) (no_other (seen new) (law new
    (subst (λ (b : Bool). IsTrue b) (sym as_honest) opens.true_to_them)))

-- what is read of a disk that is open over these bytes, where they are told
pub reads_them : {D : Type 0} (honest : D → Bool) (seen : D → List ℕ)
    (images : D → List ℕ → Type 0) (disk : D)
    (told : Option (List ℕ)) → IfSome told (Opens honest seen images disk)
    → IfSome told (λ bytes. seen disk ≡ bytes)
reads_them honest seen images disk None opens = tt
reads_them honest seen images disk (Some bytes) opens = opens.read

-- bytes that are as they were are no other ones
pub tells_no_other : (told now : Option (List ℕ)) (seen : List ℕ) → IfSome told (λ bytes. seen ≡ bytes)
    → IfSome now (λ bytes. bytes ≡ seen) → TellsNoOther told now
tells_no_other None now seen was is = tt
tells_no_other (Some before) None seen was is = tt
tells_no_other (Some before) (Some after) seen was is = is ∙ was

-- nor are those that are told as before
pub same_tells : (told now : Option (List ℕ)) → now ≡ told → TellsNoOther told now
same_tells None now is = tt
same_tells (Some before) now is = subst (TellsNoOther (Some before)) (sym is) refl

pub given_back : {D : Type 0} (disks : DiskTold D) (folder : List ℕ) (number : ℕ)
    (old new : VaultTold D) (disk : D)
    (told : Option (List ℕ)) → TakesBack disks folder number old new disk
    → IfSome told (λ bytes. disks.seen disk ≡ bytes) → KeepsBytes disks told disk
    → IsGivenBack disks folder number told old new
given_back disks folder number old new disk told takes was unharmed = record {
  inside = takes.inside;
  bytes = tells_no_other told (new.lane_bytes folder number) (disks.seen disk) was takes.bytes;
  others = takes.others;
  back = inr (disk, takes.noted, unharmed);
  others_back = takes.others_back;
  files = takes.files;
  rising = takes.rising;
}
