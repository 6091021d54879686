-- What records lead to, with the place of the gate behind them.
use Rattle.std.specs.Prelude.{ℕ, ◌≡◌, ◌+◌, Bool, true, false, ⊤, List, [], ◌∷◌, ◌++◌, length}
use Rattle.kb_journal.specs.declared.fault.LoadFault.{LoadFault}
use Rattle.kb_journal.specs.declared.fault.LoadFault.TheVariants.{NotAJournal, DiskFault, NoMemory}
use Rattle.kb_journal.specs.Format.{blocks}
use Rattle.kb_codec.specs.Entries.{Entry, History, payload, payloads}
use Rattle.kb_machine.specs.Machines.{MachineValue, no_machine}
use Rattle.kb_machine.specs.Histories.{replay, AreNewFrom}
use Rattle.kb_lane.specs.StuckRecords.{IsStuck, IsStuckAt}

-- the gate behind the records of a history stands here
abbrev pub place_of : History → ℕ
place_of history = 16 + length (blocks (payloads history))

pub record IsReplay (machine : MachineValue) (history : History) (place : ℕ) : Type 0 where
  pub led : machine ≡ replay history
  pub fresh : AreNewFrom no_machine history
  pub placed : place ≡ place_of history

-- a record is added to a history, or stands for no new command
abbrev pub Adds : History → List ℕ → Bool → History → Type 0
Adds old bytes true new = (entry : Entry) × (payload entry ≡ bytes) × (new ≡ old ++ entry ∷ [])
Adds old bytes false new = IsStuck (replay old) bytes × (new ≡ old)

-- why records aren't replayed
abbrev pub IsUnreplayed : List (List ℕ) → LoadFault → Type 0
IsUnreplayed records (NotAJournal at) = IsStuckAt records at
IsUnreplayed records DiskFault = ⊥
IsUnreplayed records NoMemory = ⊤
