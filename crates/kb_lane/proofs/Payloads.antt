-- A payload: its first four bytes tell the day, and the others the command.
use Rattle.std.proofs.Common.{◌≡◌, ℕ, ◌<◌, ◌≤◌, ◌^◌, List, length, take, drop, Option, Some}
use Rattle.std.proofs.Common.{refl, sym, ap, ◌∙◌, arith, length-append}
use Rattle.std.specs.Int.{w32, to_be_bytes, from_be_bytes}
use Rattle.std.proofs.lemmas.Nat.{from_be_bytes-to_be_bytes_4}
use Rattle.std.proofs.Math.Seq.{take-append_seam, drop-append_seam}
use Rattle.kb_codec.specs.declared.command.Command.{Command}
use Rattle.kb_codec.specs.CommandBytes.{spelling}
use Rattle.kb_codec.specs.Commands.{IsDay}
use Rattle.kb_codec.specs.Members.{day_bytes, four_bytes}
use Rattle.kb_codec.specs.Entries.{payload}
use Rattle.kb_lane.specs.Private.Parts.{both_of}

pub day_written : (number : ℕ) (bytes : List ℕ) → to_be_bytes w32 number ≡ bytes → day_bytes number ≡ bytes
unfolding day_bytes four_bytes
day_written number bytes is = is

pub day_read : (number day : ℕ) (bytes : List ℕ) → number < 2 ^ 32 → to_be_bytes w32 number ≡ bytes
    → IsDay day
    → day_bytes day ≡ bytes → number ≡ day
unfolding day_bytes four_bytes
day_read number day bytes small is named other =
    sym (from_be_bytes-to_be_bytes_4 number small)
    ∙ ap (from_be_bytes w32) (is ∙ sym other)
    ∙ from_be_bytes-to_be_bytes_4 day (omega (arith, named.1))

-- a day has four bytes
length-day_bytes : (day : ℕ) → length (day_bytes day) ≡ 4
unfolding day_bytes four_bytes
length-day_bytes day = refl

-- so a payload has as many
pub short_payload : (today : ℕ) (command : Command) (bytes : List ℕ) → payload (today, command) ≡ bytes
    → 4 ≤ length bytes
short_payload today command bytes is =
    omega (arith, ap length is, length-append (day_bytes today) (spelling command), length-day_bytes today)

-- its first bytes are the day's
pub front_payload : (today : ℕ) (command : Command) (bytes : List ℕ) → payload (today, command) ≡ bytes
    → day_bytes today ≡ take 4 bytes
front_payload today command bytes is =
    sym (take-append_seam (day_bytes today) (spelling command))
    ∙ ap (λ count. take count (payload (today, command))) (length-day_bytes today)
    ∙ ap (take 4) is

-- and the others the command's
pub rest_payload : (today : ℕ) (command : Command) (bytes : List ℕ) → payload (today, command) ≡ bytes
    → spelling command ≡ drop 4 bytes
rest_payload today command bytes is =
    sym (drop-append_seam (day_bytes today) (spelling command))
    ∙ ap (λ count. drop count (payload (today, command))) (length-day_bytes today)
    ∙ ap (drop 4) is

pub both_there : (today : ℕ) (given : Command) (day : Option ℕ) (command : Option Command) → day ≡ Some today
    → command ≡ Some given → both_of day command ≡ Some (today, given)
both_there today given day command first second = rw (first, second) refl
