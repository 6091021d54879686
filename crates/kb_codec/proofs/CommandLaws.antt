-- One spelling a command, no spelling begins another one, and what is read was spelled so.
use Rattle.std.proofs.Common.{ℕ, ◌≡◌, ◌+◌, eqb, List, [], ◌∷◌, ◌++◌, length}
use Rattle.std.proofs.Common.{Option, Some, None, Result, Ok, Err, refl, sym, ap, subst, ◌∙◌, zero-add}
use Rattle.std.specs.Prelude.{slice_get, IfOk, IfSome}
use Rattle.std.specs.Option.{option_and_then}
use Rattle.std.proofs.lemmas.Bool.{eqb-true}
use Rattle.std.proofs.lemmas.List.{append-nil, nil_from_length}
use Rattle.kb_base.specs.declared.fault.NoMemory.{NoMemory}
use Rattle.kb_codec.specs.declared.command.Command.{Command}
use Rattle.kb_codec.specs.CommandBytes.{spelling}
use Rattle.kb_codec.specs.Commands.{IsCommand}
use Rattle.kb_codec.specs.SpellingsApart.{NoSpellingBeginsAnother}
use Rattle.kb_codec.specs.Reading.{byte_in}
use Rattle.kb_codec.specs.Private.Parts.{readers, command_in, whole, ended}
use Rattle.kb_codec.proofs.Readers.{IsBytes, IsBytes-rest, byte_some, chained_some, then_some, some_is}
use Rattle.kb_codec.proofs.Readers.{at_place, guard_passed}
use Rattle.kb_codec.proofs.KindLaws.{IsSound, readers_sound, command_again}

-- what is read was spelled so
pub command_sound : (bytes : List ℕ) (command : Command) (rest : List ℕ) → IsBytes bytes
    → command_in bytes ≡ Some (command, rest) → (bytes ≡ spelling command ++ rest) × IsCommand command
unfolding command_in
command_sound bytes command rest fits e =
    let a = chained_some byte_in (λ kind left. option_and_then (λ read. read left) (slice_get readers kind))
    bytes command rest e in
    let first = byte_some bytes a.0 a.1 a.2 in
    let b = then_some (slice_get readers a.0) (λ read. read a.1) (command, rest) a.3 in
    let sound : IsSound (0 + a.0) b.0 = at_place IsSound 0 readers a.0 b.0 readers_sound b.1 in
    let was = sound a.1 command rest (IsBytes-rest a.0 a.1 (subst IsBytes first fits)) b.2 in
    (first ∙ ap (λ (n : ℕ). n ∷ a.1) (sym (zero-add a.0)) ∙ was.spelled, was.allowed)

-- spellings with bytes behind them are the same only if the commands are, and what stands behind them
pub spelling-apart : (a b : Command) (x y : List ℕ) → IsCommand a → IsCommand b
    → spelling a ++ x ≡ spelling b ++ y → (a ≡ b) × (x ≡ y)
spelling-apart a b x y is_a is_b e =
    let same : (a, x) ≡ (b, y) = some_is (a, x) (b, y)
    (sym (command_again a x is_a) ∙ ap command_in e ∙ command_again b y is_b) in
    (ap (λ (p : Command × List ℕ). p.0) same, ap (λ (p : Command × List ℕ). p.1) same)

-- a spelling that begins another one is all of it
pub no_spelling_begins_another : NoSpellingBeginsAnother
no_spelling_begins_another first second more is_first is_second e =
    spelling-apart first second more [] is_first is_second (e ∙ sym (append-nil (spelling second)))

-- all of some bytes that are a command are its spelling
pub whole_sound : (bytes : List ℕ) (command : Command) → IsBytes bytes → whole bytes ≡ Some command
    → (spelling command ≡ bytes) × IsCommand command
unfolding whole
whole_sound bytes command fits e =
    let a = then_some (command_in bytes) (λ x. ended (Some x.0) x.1) command e in
    let g = guard_passed (eqb (length a.0.1) 0) a.0.0 command a.2 in
    let nothing : a.0.1 ≡ [] = nil_from_length a.0.1 (eqb-true _ _ g.0) in
    let s = command_sound bytes a.0.0 a.0.1 fits a.1 in
    let all : spelling a.0.0 ≡ bytes =
    sym (s.0 ∙ ap (λ (l : List ℕ). spelling a.0.0 ++ l) nothing ∙ append-nil (spelling a.0.0)) in
    subst (λ (c : Command). (spelling c ≡ bytes) × IsCommand c) g.1 (all, s.1)

-- a command is all of its spelling
pub whole_again : (command : Command) → IsCommand command → whole (spelling command) ≡ Some command
unfolding whole
whole_again command is =
    let read : command_in (spelling command) ≡ Some (command, []) =
    ap command_in (sym (append-nil (spelling command))) ∙ command_again command [] is in
    rw read refl

-- what is found in some bytes is spelled so
pub found_spelled : (bytes : List ℕ) (found : Result (Option Command) NoMemory) → IsBytes bytes
    → IfOk found (λ o. o ≡ whole bytes) → IfOk found (λ o. IfSome o (λ command. spelling command ≡ bytes))
found_spelled bytes (Ok None) fits e = tt
found_spelled bytes (Ok (Some command)) fits e = (whole_sound bytes command fits (sym e)).0
found_spelled bytes (Err fault) fits e = tt

-- and it is a command
pub found_sound : (bytes : List ℕ) (found : Result (Option Command) NoMemory) → IsBytes bytes
    → IfOk found (λ o. o ≡ whole bytes) → IfOk found (λ o. IfSome o IsCommand)
found_sound bytes (Ok None) fits e = tt
found_sound bytes (Ok (Some command)) fits e = (whole_sound bytes command fits (sym e)).1
found_sound bytes (Err fault) fits e = tt

-- a command is found in its spelling
pub found_all : (bytes : List ℕ) (found : Result (Option Command) NoMemory)
    → IfOk found (λ o. o ≡ whole bytes)
    → IfOk found (λ o. (command : Command) → IsCommand command → spelling command ≡ bytes → o ≡ Some command)
found_all bytes (Ok o) e = λ command is h. e ∙ ap whole (sym h) ∙ whole_again command is
found_all bytes (Err fault) e = tt
