-- A command that is new, behind those that were replayed.
use Rattle.std.proofs.Common.{◌≡◌, ℕ, ◌+◌, List, [], ◌∷◌, ◌++◌, length, sym, ap, ◌∙◌}
use Rattle.kb_codec.specs.declared.command.Command.{Command}
use Rattle.kb_book.specs.declared.reply.LaneReply.{LaneReply}
use Rattle.kb_codec.specs.Entries.{History, payload}
use Rattle.kb_machine.specs.Judged.{New}
use Rattle.kb_machine.specs.Machines.{MachineValue, judged}
use Rattle.kb_machine.specs.Histories.{replay}
use Rattle.kb_machine.proofs.Replays.{replay_new, fresh_new}
use Rattle.kb_lane.specs.Private.Replays.{IsReplay}
use Rattle.kb_lane.proofs.Places.{next_place}

pub grows : (machine after : MachineValue) (history : History) (today : ℕ) (command : Command)
    (reply : LaneReply)
    (bytes : List ℕ) (place next : ℕ)
    → IsReplay machine history place → judged machine today command ≡ New reply after
    → payload (today, command) ≡ bytes → next ≡ place + (length bytes + 5)
    → IsReplay after (history ++ (today, command) ∷ []) next
grows machine after history today command reply bytes place next kept new is goes =
    let planned : judged (replay history) today command ≡ New reply after =
    ap (λ (led : MachineValue). judged led today command) (sym kept.led) ∙ new in
    record {
      led = sym (replay_new history today command reply after planned);
      fresh = fresh_new history today command reply after kept.fresh planned;
      placed = next_place history (today, command) bytes place next kept.placed is goes;
    }
