-- A lane that isn't loaded from its disk is given back.
use Rattle.std.proofs.Common.{◌≡◌, ◌≢◌, ◌⊎◌, ◌<◌, ℕ, zero, suc, IsTrue, List, Option, Some, None, IfSome, inl}
use Rattle.std.proofs.Common.{arith, refl, sym, subst, ◌∙◌}
use Rattle.kb_base.specs.Faults.{Rose}
use Rattle.kb_disk.specs.Images.{IsAmong}
use Rattle.kb_disk.specs.Vaults.{Opens}
use Rattle.kb_disk.specs.Told.{DiskTold, VaultTold}
use Rattle.kb_journal.specs.Reading.{number_at}
use Rattle.kb_journal.specs.Unwritten.{IsUnwritten}
use Rattle.kb_journal.specs.declared.fault.LoadFault.{LoadFault}
use Rattle.kb_journal.specs.declared.fault.LoadFault.TheVariants.{NotAJournal, DiskFault, NoMemory}
use Rattle.kb_lane.specs.Loads.{IsNoLane, RefusesLane}
use Rattle.kb_folder.specs.declared.unopened.Unopened.{Unopened}
use Rattle.kb_folder.specs.declared.unopened.Unopened.TheVariants as faults
use Rattle.kb_folder.specs.Private.Faults.{unloaded_by}
use Rattle.kb_folder.specs.OneLane.{KeepsBytes, TakesBack, IsLaneCause, IsLaneOf}
use Rattle.kb_folder.specs.Private.Unmade.{IsUnloaded, IsUnloadedBy, IsUnmade}
use Rattle.kb_folder.proofs.GivenBack.{read_again, given_back}

-- a count that rose isn't 0
pub rose_some : (old new : ℕ) → Rose old new → 0 < new
rose_some old zero rose = let risen : old < 0 = rose (omega arith) in absurd (omega (arith, risen))
rose_some old (suc new) rose = omega arith

-- a disk that was only read and synced since it was taken out is unharmed
pub unharmed_by : {D : Type 0} (disks : DiskTold D) (told : Option (List ℕ)) (opened returned : D)
    → disks.moment opened ≡ 0 → IfSome told (Opens disks.honest disks.seen disks.images opened)
    → IsUnwritten disks.honest disks.images disks.moment disks.left_since disks.fault_count opened returned
    → KeepsBytes disks told returned
unharmed_by disks None opened returned unmoved opens unwritten = tt
unharmed_by disks (Some bytes) opened returned unmoved opens unwritten = λ image left.
    opens.synced image (unwritten.moments.each image
    (subst (λ (time : ℕ). disks.left_since returned time image) (sym unmoved) left))

-- one that has had no call is unharmed
pub unharmed_now : {D : Type 0} (disks : DiskTold D) (told : Option (List ℕ)) (disk : D)
    → disks.moment disk ≡ 0
    → ((disk : D) (image : List ℕ) → disks.left_since disk (disks.moment disk) image → disks.images disk
    image)
    → IfSome told (Opens disks.honest disks.seen disks.images disk) → KeepsBytes disks told disk
unharmed_now disks None disk unmoved law opens = tt
unharmed_now disks (Some bytes) disk unmoved law opens = λ image left.
    opens.synced image (law disk image
    (subst (λ (time : ℕ). disks.left_since disk time image) (sym unmoved) left))

module _ {D : Type 0} (disks : DiskTold D) (number : ℕ) (told : Option (List ℕ)) (opened returned : D)
    (fresh : disks.fault_count opened ≡ 0) where
  -- the bytes show it
  shown : (at : ℕ) (told : Option (List ℕ)) → IfSome told (Opens disks.honest disks.seen disks.images opened)
      → (IsTrue (disks.honest opened) → IsNoLane number (disks.seen opened) at
      × (disks.seen returned ≡ disks.seen opened))
      → IfSome told (λ bytes. IsNoLane number bytes at)
  shown at None opens refuses = tt
  shown at (Some bytes) opens refuses =
      subst (λ (b : List ℕ). IsNoLane number b at) opens.read (refuses opens.true_to_them).0

  by_fault : (fault : LoadFault) → IfSome told (Opens disks.honest disks.seen disks.images opened)
      → RefusesLane disks.honest disks.seen disks.fault_count number opened fault returned
      → IsUnloadedBy number told (unloaded_by number fault) (disks.fault_count returned)
  by_fault (NotAJournal at) opens refuses = (refl, shown at told opens refuses.0, refuses.1 ∙ fresh)
  by_fault DiskFault opens refuses = rose_some (disks.fault_count opened) (disks.fault_count returned) refuses
  by_fault NoMemory opens refuses = refuses.1 ∙ fresh

  same_bytes : (told : Option (List ℕ)) → IfSome told (Opens disks.honest disks.seen disks.images opened)
      → ((disk : D) → IsTrue (disks.honest disk) → disks.images disk (disks.seen disk))
      → disks.honest returned ≡ disks.honest opened → IsAmong (disks.images returned) (disks.images opened)
      → IfSome told (λ bytes. disks.seen returned ≡ bytes)
  same_bytes None opens law as_honest no_other = tt
  same_bytes (Some bytes) opens law as_honest no_other =
      read_again disks.honest disks.seen disks.images opened returned bytes law opens as_honest no_other

  -- a disk from which no lane is loaded has the bytes that it had
  pub unloaded : (fault : LoadFault) → IfSome told (Opens disks.honest disks.seen disks.images opened)
      → RefusesLane disks.honest disks.seen disks.fault_count number opened fault returned
      → ((disk : D) → IsTrue (disks.honest disk) → disks.images disk (disks.seen disk))
      → disks.moment opened ≡ 0
      → IsUnwritten disks.honest disks.images disks.moment disks.left_since disks.fault_count opened returned
      → IsUnloaded disks number told (unloaded_by number fault) returned
  unloaded fault opens refuses law unmoved unwritten = (
    same_bytes told opens law unwritten.as_honest unwritten.no_other,
    unharmed_by disks told opened returned unmoved opens unwritten,
    by_fault fault opens refuses,
  )

-- so it leaves the lane in the vault as it was
pub unmade : {D : Type 0} (disks : DiskTold D) (folder : List ℕ) (count number : ℕ) (old new : VaultTold D)
    (told : Option (List ℕ)) (disk : D) (market : ℕ) (fault : Unopened)
    → TakesBack disks folder number old new disk → IsUnloaded disks number told fault disk
    → IsUnmade disks folder count number told old new market market fault
unmade disks folder count number old new told disk market fault takes refuses =
    (given_back disks folder number old new disk told takes refuses.0 refuses.1, by_fault fault refuses.2)
  where
    -- it is one of form
    of_form : (at : ℕ) (told : Option (List ℕ)) → IfSome told (λ bytes. IsNoLane number bytes at)
        → IfSome told (λ bytes. IsNoLane number bytes at
        ⊎ ((at ≡ 8) × (number_at 8 bytes ≢ count) × IsLaneOf (number_at 8 bytes) number bytes))
    of_form at None shows = tt
    of_form at (Some bytes) shows = inl shows

    by_fault : (fault : Unopened) → IsUnloadedBy number told fault (disks.fault_count disk)
        → IsLaneCause count number told old.faults new.faults market market fault
    by_fault faults.Disk refuses = (takes.risen refuses, refl)
    by_fault faults.NoMemory refuses = (takes.calm refuses, refl)
    by_fault (faults.Journal lane at) refuses =
        (refuses.0, of_form at told refuses.1, takes.calm refuses.2, refl)
    by_fault faults.Market refuses = absurd refuses
