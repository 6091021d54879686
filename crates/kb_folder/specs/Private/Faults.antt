-- The faults that come of those of a vault and of a lane.
use Rattle.std.specs.Prelude.{ℕ}
use Rattle.kb_disk.specs.declared.fault.FileFault.{FileFault}
use Rattle.kb_disk.specs.declared.fault.FileFault.TheVariants as file
use Rattle.kb_journal.specs.declared.fault.LoadFault.{LoadFault}
use Rattle.kb_journal.specs.declared.fault.LoadFault.TheVariants as load
use Rattle.kb_folder.specs.declared.unopened.Unopened.{Unopened}
use Rattle.kb_folder.specs.declared.unopened.Unopened.TheVariants.{Disk, NoMemory, Journal}

-- a vault gives no disk
abbrev pub unopened_by : FileFault → Unopened
unopened_by file.Failed = Disk
unopened_by file.NoMemory = NoMemory

-- the lane of this number isn't loaded
abbrev pub unloaded_by : ℕ → LoadFault → Unopened
unloaded_by number (load.NotAJournal at) = Journal number at
unloaded_by number load.DiskFault = Disk
unloaded_by number load.NoMemory = NoMemory
