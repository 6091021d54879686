-- A settlement adds no work that accounts may yet ask for by themselves.
use Rattle.std.specs.Prelude.{ℕ, ◌≤◌, Bool, List}
use Rattle.kb_codec.specs.declared.command.Command.TheVariants as kinds
use Rattle.kb_codec.specs.declared.command.Settle.{Settle}
use Rattle.kb_machine.specs.Machines.{MachineValue}
use Rattle.kb_machine.specs.Histories.{entry_after}
use Rattle.kb_histories.specs.OwnWork.{all_work}
use Rattle.kb_histories.specs.BilledMachines.{AreBilled}

-- whichever accounts are counted, and whether it is new, comes again or is refused
abbrev pub SettlementsAddNoWork : Type 0
SettlementsAddNoWork = (machine : MachineValue) (today : ℕ) (named : List ℕ → Bool) (c : Settle)
    → AreBilled machine
    → all_work named today (entry_after machine (today, kinds.Settle c)) ≤ all_work named today machine
