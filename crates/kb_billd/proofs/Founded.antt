-- What the making of a folder's lanes leaves.
use Rattle.std.proofs.Common.{◌≡◌, ℕ, ◌+◌, ◌<◌, Result, Ok, Err, OnOk, refl, ◌∙◌, sym}
use Rattle.kb_base.specs.Faults.{Rose}
use Rattle.kb_catalog_text.specs.declared.fault.TextFault.{TextFault}
use Rattle.kb_runs.specs.declared.run_stop.RunStop.TheVariants as runs
use Rattle.kb_words.specs.declared.words.Init.{Init}
use Rattle.kb_disk.specs.Places.{SameLanes}
use Rattle.kb_disk.specs.Told.{DiskTold, VaultTold}
use Rattle.kb_folder.specs.declared.unfounded.Unfounded.{Unfounded}
use Rattle.kb_folder.specs.declared.unfounded.Unfounded.TheVariants as unfounded
use Rattle.kb_folder.specs.Foundings.{FailsAtOne, FoundsWith, IsLeft, CountsFaults, SameOrWith, StopsBeforeOne}
use Rattle.kb_runs.specs.declared.stop.Stop.{Stop}
use Rattle.kb_runs.specs.declared.stop.Stop.TheVariants as stops
use Rattle.kb_billd.specs.Foundings.{FoundsFolder, Made, outcome_of_founding}

module _ {D : Type 0} (today : ℕ) (init : Init) (old new : VaultTold D) where
  -- what is made, by how it ended
  pub made_by : (ended : Result (Unit {0}) Unfounded)
      → OnOk ended (FoundsWith today init.dir init.lanes init.lanes init.lanes (old.file_bytes init.catalog)
      (old.file_bytes init.overdue) old.lane_bytes new.lane_bytes)
      → ((fault : TextFault) → ended ≡ Err (unfounded.Text fault) → SameLanes new.lane_bytes old.lane_bytes)
      → ((lane : ℕ) → ended ≡ Err (unfounded.NotEmpty lane) → (lane < init.lanes)
      × IsLeft (old.lane_bytes init.dir lane) (new.lane_bytes init.dir lane))
      → ((lane : ℕ) → ended ≡ Err (unfounded.NotEmpty lane)
      → FoundsWith today init.dir init.lanes lane (lane + 1)
      (old.file_bytes init.catalog) (old.file_bytes init.overdue) old.lane_bytes new.lane_bytes)
      → (ended ≡ Err unfounded.Disk → SameOrWith today (old.file_bytes init.catalog)
      (old.file_bytes init.overdue) (FailsAtOne init.dir init.lanes) old.lane_bytes new.lane_bytes)
      → (ended ≡ Err unfounded.NoMemory → SameOrWith today (old.file_bytes init.catalog)
      (old.file_bytes init.overdue) (StopsBeforeOne init.dir init.lanes) old.lane_bytes new.lane_bytes)
      → Made today init old new ended
  made_by (Ok done) founded untouched not_empty before failed no_memory = founded
  made_by (Err (unfounded.NotEmpty lane)) founded untouched not_empty before failed no_memory =
      let left = not_empty lane refl in (left.0, left.1, before lane refl)
  made_by (Err (unfounded.Text fault)) founded untouched not_empty before failed no_memory = untouched fault
      refl
  made_by (Err unfounded.Disk) founded untouched not_empty before failed no_memory = failed refl
  made_by (Err unfounded.NoMemory) founded untouched not_empty before failed no_memory = no_memory refl

module _ {D : Type 0} (disks : DiskTold D) (today : ℕ) (init : Init) (old new : VaultTold D) where
  -- a disk that failed is counted, and no other end is that of a disk or a market
  pub founding_disk : (outcome : Result (Unit {0}) Stop) → FoundsFolder disks today init old new outcome
      → outcome ≡ Err stops.Disk → Rose old.faults new.faults
  founding_disk outcome founds is = by_end founds.ended (sym founds.told ∙ is) founds.counted
    where
      by_end : (ended : Result (Unit {0}) Unfounded) → outcome_of_founding ended ≡ Err stops.Disk
          → CountsFaults old.faults new.faults ended → Rose old.faults new.faults
      by_end (Ok done) same counts = absurd (cc)
      by_end (Err unfounded.Disk) same counts = counts
      by_end (Err unfounded.NoMemory) same counts = absurd (cc)
      by_end (Err (unfounded.Text fault)) same counts = absurd (cc)
      by_end (Err (unfounded.NotEmpty lane)) same counts = absurd (cc)

  pub founding_no_market : (outcome : Result (Unit {0}) Stop) → FoundsFolder disks today init old new outcome
      → outcome ≡ Err stops.Market → ⊥
  founding_no_market outcome founds is = by_end founds.ended (sym founds.told ∙ is)
    where
      by_end : (ended : Result (Unit {0}) Unfounded) → outcome_of_founding ended ≡ Err stops.Market → ⊥
      by_end (Ok done) same = absurd (cc)
      by_end (Err unfounded.Disk) same = absurd (cc)
      by_end (Err unfounded.NoMemory) same = absurd (cc)
      by_end (Err (unfounded.Text fault)) same = absurd (cc)
      by_end (Err (unfounded.NotEmpty lane)) same = absurd (cc)

  -- nothing was read or written, so neither failed
  pub founding_no_input : (outcome : Result (Unit {0}) Stop) → FoundsFolder disks today init old new outcome
      → outcome ≡ Err (stops.Run runs.Input) → ⊥
  founding_no_input outcome founds is = by_end founds.ended (sym founds.told ∙ is)
    where
      by_end : (ended : Result (Unit {0}) Unfounded) → outcome_of_founding ended ≡ Err (stops.Run runs.Input)
          → ⊥
      by_end (Ok done) same = absurd (cc)
      by_end (Err unfounded.Disk) same = absurd (cc)
      by_end (Err unfounded.NoMemory) same = absurd (cc)
      by_end (Err (unfounded.Text fault)) same = absurd (cc)
      by_end (Err (unfounded.NotEmpty lane)) same = absurd (cc)

  pub founding_no_output : (outcome : Result (Unit {0}) Stop) → FoundsFolder disks today init old new outcome
      → outcome ≡ Err (stops.Run runs.Output) → ⊥
  founding_no_output outcome founds is = by_end founds.ended (sym founds.told ∙ is)
    where
      by_end : (ended : Result (Unit {0}) Unfounded) → outcome_of_founding ended ≡ Err (stops.Run runs.Output)
          → ⊥
      by_end (Ok done) same = absurd (cc)
      by_end (Err unfounded.Disk) same = absurd (cc)
      by_end (Err unfounded.NoMemory) same = absurd (cc)
      by_end (Err (unfounded.Text fault)) same = absurd (cc)
      by_end (Err (unfounded.NotEmpty lane)) same = absurd (cc)
