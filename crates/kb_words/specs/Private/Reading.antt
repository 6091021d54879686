-- What a call reads: exactly what a definition says, unless memory ran out.
use Rattle.std.specs.Prelude.{◌≡◌, ⊤, Option, Some, None, Result, Ok, Err}
use Rattle.kb_words.specs.declared.read.WordsFault.{WordsFault}
use Rattle.kb_words.specs.declared.read.WordsFault.TheVariants as fault

abbrev pub IsRead : {A : Type 0} → Option A → Result A WordsFault → Type 0
IsRead said (Ok read) = said ≡ Some read
IsRead said (Err fault.Words) = said ≡ None
IsRead said (Err fault.NoMemory) = ⊤
