-- What is answered of a text.
use Rattle.std.specs.Prelude.{◌≡◌, IsOk, Result, Ok, Err, ⊤}
use Rattle.kb_catalog_text.specs.declared.fault.TextFault.{TextFault}
use Rattle.kb_folder.specs.declared.unfounded.Unfounded.{Unfounded}
use Rattle.kb_folder.specs.declared.unfounded.Unfounded.TheVariants as faults

-- A text that is refused is told so, unless a call failed or memory ran out.
abbrev pub IsReadAs : {A B : Type 0} → Result A TextFault → Result B Unfounded → Type 0
IsReadAs read (Ok value) = IsOk read
IsReadAs read (Err (faults.Text fault)) = read ≡ Err fault
IsReadAs read (Err (faults.NotEmpty lane)) = ⊥
IsReadAs read (Err faults.Disk) = ⊤
IsReadAs read (Err faults.NoMemory) = ⊤
