-- Requests ask for what a caller may ask for.
use Rattle.std.specs.Prelude.{◌≡◌, ⊤, true}
use Rattle.kb_codec.specs.Senders.{is_callers}
use Rattle.kb_json.specs.declared.request.What.{What}
use Rattle.kb_json.specs.declared.request.What.TheVariants as whats

-- a command that is asked for is one of a caller
abbrev pub IsCallers : What → Type 0
IsCallers (whats.Command command) = is_callers command ≡ true
IsCallers (whats.Query query) = ⊤
IsCallers whats.Janitor = ⊤
