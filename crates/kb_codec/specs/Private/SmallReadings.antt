-- Readings of commands of a few bytes.
use Rattle.std.specs.Prelude.{◌≡◌, [], ◌∷◌, Some, None, codes, refl}
use Rattle.kb_codec.specs.declared.command.Command.TheVariants as kinds
use Rattle.kb_codec.specs.Reading.{name_in}
use Rattle.kb_codec.specs.Private.Parts.{command_in, whole}

a_look_at_a1 : command_in (20 ∷ 2 ∷ 97 ∷ 49 ∷ 7 ∷ []) ≡ Some
    (kinds.Overdue (record { account = codes "a1" }), 7 ∷ [])
unfolding command_in name_in
a_look_at_a1 = refl

with_a_byte_behind : whole (20 ∷ 2 ∷ 97 ∷ 49 ∷ 7 ∷ []) ≡ None
unfolding whole command_in name_in
with_a_byte_behind = refl
