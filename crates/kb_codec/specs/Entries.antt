-- Commands as they are written down, each with the day on which it came.
use Rattle.std.specs.Prelude.{ℕ, ◌≡◌, List, [], ◌∷◌, ◌++◌, map, codes, refl}
use Rattle.kb_days.specs.Dates.{march}
use Rattle.kb_codec.specs.declared.command.Command.{Command}
use Rattle.kb_codec.specs.declared.command.Command.TheVariants as kinds
use Rattle.kb_codec.specs.declared.action.Action.TheVariants as actions
use Rattle.kb_codec.specs.CommandBytes.{spelling}
use Rattle.kb_codec.specs.Commands.{IsDay, IsCommand}
use Rattle.kb_codec.specs.Members.{day_bytes, four_bytes, name_bytes}

-- a command, and its day
abbrev pub Entry : Type 0
Entry = ℕ × Command

-- commands in the order in which they were accepted
abbrev pub History : Type 0
History = List Entry

-- how an entry is written down: the day in four bytes, and the command's spelling
abbrev pub payload : Entry → List ℕ
payload entry = day_bytes entry.0 ++ spelling entry.1

an_uncancel : payload (
  march 25,
  kinds.Act (codes "a1") (codes "k9") (actions.Uncancel (record { subscription = codes "s1" })),
)
    ≡ 0 ∷ 0 ∷ 77 ∷ 95 ∷ 7 ∷ 2 ∷ 97 ∷ 49 ∷ 2 ∷ 107 ∷ 57 ∷ 2 ∷ 115 ∷ 49 ∷ []
unfolding day_bytes four_bytes name_bytes
an_uncancel = refl

abbrev pub payloads : History → List (List ℕ)
payloads history = map payload history

-- the day is one that a command may name, and each member of the command is one that its type allows
abbrev pub IsEntry : Entry → Type 0
IsEntry entry = IsDay entry.0 × IsCommand entry.1
