-- What a lane replies to a command, and what it leaves.
use Rattle.std.specs.Prelude.{ℕ, ◌≡◌, ◌+◌, Bool, true, false, ◌&&◌, [], ◌∷◌, ◌++◌, length, ⊤}
use Rattle.kb_base.specs.Faults.{Rose}
use Rattle.kb_book.specs.declared.reply.LaneReply.{LaneReply}
use Rattle.kb_book.specs.declared.reply.LaneReply.TheVariants as replies
use Rattle.kb_codec.specs.Entries.{Entry, payload}
use Rattle.kb_lane.specs.Logs.{MayAppend, IsTooFullFor, written_size}
use Rattle.kb_machine.specs.Judged.{Judged, is_new}
use Rattle.kb_codec.specs.declared.command.Command.{Command}
use Rattle.kb_machine.specs.Machines.{MachineValue, judged, reply_of}
use Rattle.kb_lane.specs.Lanes.{LaneValue, machine_of}
use Rattle.kb_lane.specs.Outbox.{work_of}

-- The reply is the machine's, unless memory ran out; or the command is new, and isn't written down.
abbrev pub IsReply : Judged LaneReply MachineValue → LaneReply → Type 0
IsReply told replies.DiskFault = is_new told ≡ true
IsReply told (replies.Stopped count) = is_new told ≡ true
IsReply told (replies.Full commands size) = is_new told ≡ true
IsReply told replies.NoMemory = ⊤
IsReply told (replies.Accepted answer) = reply_of told ≡ replies.Accepted answer
IsReply told (replies.Version number) = reply_of told ≡ replies.Version number
IsReply told (replies.States number) = reply_of told ≡ replies.States number
IsReply told (replies.Refused refusal) = reply_of told ≡ replies.Refused refusal

-- the reply tells that the command was accepted, now or before
abbrev pub is_accepted : LaneReply → Bool
is_accepted (replies.Accepted answer) = true
is_accepted (replies.Version number) = true
is_accepted (replies.States number) = true
is_accepted (replies.Refused refusal) = false
is_accepted replies.DiskFault = false
is_accepted (replies.Stopped count) = false
is_accepted (replies.Full commands size) = false
is_accepted replies.NoMemory = false

-- the command is new, and this reply accepts it
abbrev pub is_taken : Judged LaneReply MachineValue → LaneReply → Bool
is_taken told reply = is_new told && is_accepted reply

-- A command is taken: no append had failed, and there was room for it; the history has it at its end, what it
-- leaves to do stands at the end of the outbox, and the lane goes on.
pub record Takes {D G : Type 0} (old new : LaneValue D G) (entry : Entry) : Type 0 where
  pub history : new.log.history ≡ old.log.history ++ entry ∷ []
  pub outbox : new.outbox ≡ old.outbox ++ work_of entry
  pub failed : new.log.failed ≡ old.log.failed
  pub running : new.log.journal.stopped ≡ false
  pub may : MayAppend old.log (length (payload entry))

-- The disk failed while a command was written down, for which there was room: the command is marked, and the
-- lane has stopped.
pub record IsMarked {D G : Type 0} (fault_count : D → ℕ) (old new : LaneValue D G) (entry : Entry)
    : Type 0 where
  pub history : new.log.history ≡ old.log.history
  pub outbox : new.outbox ≡ old.outbox
  pub marked : new.log.failed ≡ entry ∷ []
  pub may : MayAppend old.log (length (payload entry))
  pub stopped : new.log.journal.stopped ≡ true
  pub cause : Rose (fault_count old.log.journal.disk) (fault_count new.log.journal.disk)

-- What the performing of a command that comes on a day leaves, by its reply: it is taken, or marked, or the
-- lane is as it was; `Stopped` and `Full` come by their causes; and no gateway is asked.
pub record Performs {D G : Type 0} (fault_count : D → ℕ) (old new : LaneValue D G) (today : ℕ)
    (command : Command)
    (reply : LaneReply) : Type 0 where
  pub told : IsReply (judged (machine_of old) today command) reply
  pub taken : is_taken (judged (machine_of old) today command) reply ≡ true → Takes old new (today, command)
  pub untaken : is_taken (judged (machine_of old) today command) reply ≡ false
      → (reply ≡ replies.DiskFault → ⊥) → new ≡ old
  pub fault : reply ≡ replies.DiskFault → IsMarked fault_count old new (today, command)
  pub stopped : (count : ℕ) → reply ≡ replies.Stopped count
      → (old.log.journal.stopped ≡ true) × (count ≡ length old.log.history)
  pub full : (commands size : ℕ) → reply ≡ replies.Full commands size → (old.log.journal.stopped ≡ false)
      × IsTooFullFor old.log (length (payload (today, command)))
      × (commands ≡ length old.log.history) × (size ≡ written_size old.log + 1)
  pub gateway : new.gateway ≡ old.gateway
  pub own : new.own ≡ old.own
