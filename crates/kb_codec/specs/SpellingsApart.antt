-- That no spelling of a command begins another one.
use Rattle.std.specs.Prelude.{ℕ, ◌≡◌, false, List, [], ◌++◌, length, take, bytes_eq, codes, refl}
use Rattle.kb_codec.specs.declared.command.Command.{Command}
use Rattle.kb_codec.specs.declared.command.Command.TheVariants as kinds
use Rattle.kb_codec.specs.declared.action.Action.TheVariants as actions
use Rattle.kb_codec.specs.CommandBytes.{spelling}
use Rattle.kb_codec.specs.Commands.{IsCommand}
use Rattle.kb_codec.specs.Members.{name_bytes}

-- a spelling that begins another one is that of the same command, and all of it
abbrev pub NoSpellingBeginsAnother : Type 0
NoSpellingBeginsAnother = (first second : Command) (more : List ℕ) → IsCommand first → IsCommand second
    → spelling first ++ more ≡ spelling second → (first ≡ second) × (more ≡ [])

-- the cancellation of a subscription is taken back
abbrev uncancel : List ℕ → Command
uncancel subscription =
    kinds.Act (codes "a1") (codes "k2") (actions.Uncancel (record { subscription = subscription }))

s1_and_s12 : bytes_eq (spelling (uncancel (codes "s1")))
    (take (length (spelling (uncancel (codes "s1")))) (spelling (uncancel (codes "s12"))))
    ≡ false
unfolding name_bytes
s1_and_s12 = refl
