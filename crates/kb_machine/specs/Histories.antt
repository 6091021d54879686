-- What a history of commands leads to.
use Rattle.std.specs.Prelude.{◌≡◌, true, [], ◌∷◌, ⊤}
use Rattle.std.specs.List.{fold}
use Rattle.kb_codec.specs.Entries.{Entry, History}
use Rattle.kb_machine.specs.Judged.{after_judged, is_new}
use Rattle.kb_machine.specs.Machines.{MachineValue, no_machine, judged}

-- what a command makes of the machine
abbrev pub entry_after : MachineValue → Entry → MachineValue
entry_after machine entry = after_judged machine (judged machine entry.0 entry.1)

-- what a history leads to
unfoldable pub replay : History → MachineValue
replay history = fold entry_after no_machine history

-- a command is new to a machine
abbrev pub IsNewOn : MachineValue → Entry → Type 0
IsNewOn machine entry = is_new (judged machine entry.0 entry.1) ≡ true

-- each command is new to what those before it led to
unfoldable pub AreNewFrom : MachineValue → History → Type 0
AreNewFrom machine [] = ⊤
AreNewFrom machine (entry ∷ later) = IsNewOn machine entry × AreNewFrom (entry_after machine entry) later
