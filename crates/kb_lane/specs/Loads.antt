-- Why a lane isn't loaded.
use Rattle.std.specs.Prelude.{ℕ, ◌≡◌, ◌⊎◌, Bool, IsTrue, List}
use Rattle.kb_base.specs.Faults.{Rose}
use Rattle.kb_journal.specs.declared.fault.LoadFault.{LoadFault}
use Rattle.kb_journal.specs.declared.fault.LoadFault.TheVariants.{NotAJournal, DiskFault, NoMemory}
use Rattle.kb_journal.specs.Format.{StandsFor}
use Rattle.kb_journal.specs.Reading.{IsNoJournal}
use Rattle.kb_lane.specs.StuckRecords.{IsStuckAt}

-- the bytes are no journal of a lane, or are one, and the record at this place stands for no new command
abbrev pub IsNoLane : ℕ → List ℕ → ℕ → Type 0
IsNoLane lane bytes at = IsNoJournal lane bytes at
    ⊎ ((lanes : ℕ) × (records : List (List ℕ)) × StandsFor lanes lane records bytes × IsStuckAt records at)

-- Why a lane isn't loaded from a disk, and what that leaves: its bytes are no lane; or its count rose; or
-- memory ran out. Its bytes are as they were, and no call of it failed, unless the count rose.
abbrev pub RefusesLane : {D : Type 0} → (D → Bool) → (D → List ℕ) → (D → ℕ) → ℕ → D → LoadFault → D → Type 0
RefusesLane honest seen faults lane old (NotAJournal at) new =
    (IsTrue (honest old) → IsNoLane lane (seen old) at × (seen new ≡ seen old)) × (faults new ≡ faults old)
RefusesLane honest seen faults lane old DiskFault new = Rose (faults old) (faults new)
RefusesLane honest seen faults lane old NoMemory new =
    (IsTrue (honest old) → seen new ≡ seen old) × (faults new ≡ faults old)
