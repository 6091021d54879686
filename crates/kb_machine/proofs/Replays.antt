-- What a history with one command more leads to.
use Rattle.std.proofs.Common.{◌≡◌, ℕ, [], ◌∷◌, ◌++◌, refl, ap, ◌∙◌}
use Rattle.std.specs.List.{fold}
use Rattle.std.proofs.lemmas.List.Sums.{fold-append}
use Rattle.kb_codec.specs.declared.command.Command.{Command}
use Rattle.kb_codec.specs.Entries.{Entry, History}
use Rattle.kb_book.specs.declared.reply.LaneReply.{LaneReply}
use Rattle.kb_machine.specs.Judged.{New, after_judged, is_new}
use Rattle.kb_machine.specs.Machines.{MachineValue, no_machine, judged}
use Rattle.kb_machine.specs.Histories.{entry_after, replay, IsNewOn, AreNewFrom}

-- no command leads to nothing
pub replay_none : replay [] ≡ no_machine
unfolding replay
replay_none = refl

-- a command more leads to what it makes of the machine before
pub replay_more : (history : History) (entry : Entry)
    → replay (history ++ entry ∷ []) ≡ entry_after (replay history) entry
unfolding replay
replay_more history entry = fold-append entry_after no_machine history (entry ∷ [])

-- a new command leads to what it makes of what was there
pub replay_new : (history : History) (today : ℕ) (command : Command) (reply : LaneReply)
    (after : MachineValue)
    → judged (replay history) today command ≡ New reply after
    → replay (history ++ (today, command) ∷ []) ≡ after
replay_new history today command reply after new =
    replay_more history (today, command) ∙ ap (after_judged (replay history)) new

new-more : (machine : MachineValue) (history : History) (entry : Entry) → AreNewFrom machine history
    → IsNewOn (fold entry_after machine history) entry → AreNewFrom machine (history ++ entry ∷ [])
unfolding AreNewFrom
new-more machine [] entry fresh new = (new, tt)
new-more machine (first ∷ later) entry fresh new =
    (fresh.0, new-more (entry_after machine first) later entry fresh.1 new)

-- and each command is still new to those before it
pub fresh_new : (history : History) (today : ℕ) (command : Command) (reply : LaneReply) (after : MachineValue)
    → AreNewFrom no_machine history → judged (replay history) today command ≡ New reply after
    → AreNewFrom no_machine (history ++ (today, command) ∷ [])
unfolding replay
fresh_new history today command reply after fresh new =
    new-more no_machine history (today, command) fresh (ap is_new new)

pub fresh_none : AreNewFrom no_machine []
unfolding AreNewFrom
fresh_none = tt
