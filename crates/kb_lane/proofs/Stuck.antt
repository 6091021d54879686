-- A record of a command that isn't new.
use Rattle.std.proofs.Common.{◌≡◌, ℕ, false, List, ap, ◌∙◌, refl, Some}
use Rattle.kb_codec.specs.declared.command.Command.{Command}
use Rattle.kb_book.specs.declared.reply.LaneReply.{LaneReply}
use Rattle.kb_book.specs.declared.refusal.Refusal.{Refusal}
use Rattle.kb_codec.specs.Entries.{Entry, IsEntry, payload}
use Rattle.kb_machine.specs.Judged.{Judged, New, Again, Refused, is_new, refusal_in}
use Rattle.kb_machine.specs.Machines.{MachineValue, judged}
use Rattle.kb_lane.specs.StuckRecords.{IsStuck}

stuck : (machine : MachineValue) (today : ℕ) (command : Command) (bytes : List ℕ)
    → ((other : Entry) → IsEntry other → payload other ≡ bytes → other ≡ (today, command))
    → is_new (judged machine today command) ≡ false → IsStuck machine bytes
stuck machine today command bytes only not entry sound is =
    ap (λ (given : Entry). is_new (judged machine given.0 given.1)) (only entry sound is) ∙ not

pub stuck_again : (machine : MachineValue) (today : ℕ) (command : Command) (bytes : List ℕ)
    (reply : LaneReply)
    → ((other : Entry) → IsEntry other → payload other ≡ bytes → other ≡ (today, command))
    → judged machine today command ≡ Again reply → IsStuck machine bytes
stuck_again machine today command bytes reply only again =
    stuck machine today command bytes only (ap is_new again)

refused-new : {R A : Type 0} (told : Judged R A) (refusal : Refusal) → refusal_in told ≡ Some refusal
    → is_new told ≡ false
refused-new (New reply after) refusal is = absurd (cc)
refused-new (Again reply) refusal is = refl
refused-new (Refused told) refusal is = refl

pub stuck_refused : (machine : MachineValue) (today : ℕ) (command : Command) (bytes : List ℕ)
    (refusal : Refusal)
    → ((other : Entry) → IsEntry other → payload other ≡ bytes → other ≡ (today, command))
    → refusal_in (judged machine today command) ≡ Some refusal → IsStuck machine bytes
stuck_refused machine today command bytes refusal only refused =
    stuck machine today command bytes only (refused-new (judged machine today command) refusal refused)
