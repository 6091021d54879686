-- What the making of a folder's lanes leaves.
use Rattle.std.specs.Prelude.{ℕ, ◌≡◌, ◌+◌, ◌<◌, IfSome, Result, Ok, Err, OnErr}
use Rattle.kb_runs.specs.declared.run_stop.RunStop.TheVariants as runs
use Rattle.kb_words.specs.declared.words.Init.{Init}
use Rattle.kb_disk.specs.Places.{SameLanes, SameFiles}
use Rattle.kb_disk.specs.Told.{DiskTold, VaultTold}
use Rattle.kb_folder.specs.declared.unfounded.Unfounded.{Unfounded}
use Rattle.kb_folder.specs.declared.unfounded.Unfounded.TheVariants as unfounded
use Rattle.kb_folder.specs.Begun.{CrashesWith}
use Rattle.kb_folder.specs.Foundings.{CountsFaults, FailsAtOne, FoundsWith, HarmsNone, IsLeft, SameFrom}
use Rattle.kb_folder.specs.Foundings.{SameOrWith}
use Rattle.kb_folder.specs.Foundings.{StopsBeforeOne, TellsFault, text_fault}
use Rattle.kb_runs.specs.declared.stop.Stop.{Stop}
use Rattle.kb_runs.specs.declared.stop.Stop.TheVariants as stops

-- what stops the program where lanes aren't founded
abbrev pub stop_of_unfounded : Unfounded → Stop
stop_of_unfounded unfounded.Disk = stops.Disk
stop_of_unfounded unfounded.NoMemory = stops.Run runs.Memory
stop_of_unfounded (unfounded.Text fault) = stops.Text fault
stop_of_unfounded (unfounded.NotEmpty lane) = stops.NotEmpty lane

abbrev pub outcome_of_founding : Result (Unit {0}) Unfounded → Result (Unit {0}) Stop
outcome_of_founding (Ok done) = Ok done
outcome_of_founding (Err fault) = Err (stop_of_unfounded fault)

-- Lanes that were made: all, each with the two texts; or those before one that isn't empty, which stays as
-- it was; or none where a text is refused; or those before one whose disk failed, which isn't harmed; or
-- those before one for which memory ran out.
abbrev pub Made : {D : Type 0} → ℕ → Init → VaultTold D → VaultTold D → Result (Unit {0}) Unfounded → Type 0
Made today init old new (Ok done) = FoundsWith today init.dir init.lanes init.lanes init.lanes
    (old.file_bytes init.catalog) (old.file_bytes init.overdue) old.lane_bytes new.lane_bytes
Made today init old new (Err (unfounded.NotEmpty lane)) = (lane < init.lanes)
    × IsLeft (old.lane_bytes init.dir lane) (new.lane_bytes init.dir lane)
    × FoundsWith today init.dir init.lanes lane (lane + 1)
    (old.file_bytes init.catalog) (old.file_bytes init.overdue) old.lane_bytes new.lane_bytes
Made today init old new (Err (unfounded.Text fault)) = SameLanes new.lane_bytes old.lane_bytes
Made today init old new (Err unfounded.Disk) = SameOrWith today (old.file_bytes init.catalog)
    (old.file_bytes init.overdue) (FailsAtOne init.dir init.lanes) old.lane_bytes new.lane_bytes
Made today init old new (Err unfounded.NoMemory) = SameOrWith today (old.file_bytes init.catalog)
    (old.file_bytes init.overdue) (StopsBeforeOne init.dir init.lanes) old.lane_bytes new.lane_bytes

-- What it leaves, by how it ends: a text that is refused is told; faults are counted; where not all are made
-- no lane is harmed: each has the bytes that it had, or the beginning of its own two texts; and all else in
-- the vault stays. A crash at any moment leaves the same: the bytes that a lane had, or the beginning of its
-- own two texts; and a lane that is made keeps both.
pub record FoundsFolder {D : Type 0} (disks : DiskTold D) (today : ℕ) (init : Init) (old new : VaultTold D)
    (outcome : Result (Unit {0}) Stop) : Type 0 where
  pub ended : Result (Unit {0}) Unfounded
  pub told : outcome ≡ outcome_of_founding ended
  pub made : Made today init old new ended
  pub refused : IfSome (old.file_bytes init.catalog) (λ catalog. IfSome (old.file_bytes init.overdue)
      (λ overdue. TellsFault (text_fault catalog overdue) ended))
  pub unharmed : OnErr ended (SameOrWith today (old.file_bytes init.catalog) (old.file_bytes init.overdue)
      (HarmsNone init.dir init.lanes) old.lane_bytes new.lane_bytes)
  pub crash : CrashesWith disks today init.dir init.lanes (old.file_bytes init.catalog)
      (old.file_bytes init.overdue) old new ended
  pub counted : CountsFaults old.faults new.faults ended
  pub others : SameFrom init.dir init.lanes old.lane_bytes new.lane_bytes
  pub others_back : SameFrom init.dir init.lanes old.came_back new.came_back
  pub inside : SameLanes new.is_out old.is_out
  pub files : SameFiles new.file_bytes old.file_bytes
