-- Why a new command isn't taken in, and what that leaves.
use Rattle.std.specs.Prelude.{ℕ, ◌≡◌, ◌+◌, true, false, [], ◌∷◌, length, Result, Ok, Err, ⊤}
use Rattle.kb_base.specs.Faults.{Rose}
use Rattle.kb_journal.specs.declared.fault.AppendFault.TheVariants.{Stopped, Full, DiskFault}
use Rattle.kb_book.specs.declared.reply.LaneReply.{LaneReply}
use Rattle.kb_book.specs.declared.reply.LaneReply.TheVariants as replies
use Rattle.kb_codec.specs.Entries.{Entry}
use Rattle.kb_lane.specs.Logs.{MayAppend, IsTooFullFor, written_size}
use Rattle.kb_lane.specs.Lanes.{LaneValue}
use Rattle.kb_lane.specs.declared.accept.Unwritten.{Unwritten}
use Rattle.kb_lane.specs.declared.accept.Unwritten.TheVariants.{NoMemory, Append}

-- Memory ran out, an append had failed before, or there is no room: the lane is as it was. Or the disk
-- failed: the command is marked, and all else is as it was.
abbrev pub IsUnwritten : {D G : Type 0} → (D → ℕ) → LaneValue D G → LaneValue D G → Entry → ℕ → Unwritten
    → Type 0
IsUnwritten fault_count old new entry size NoMemory = new ≡ old
IsUnwritten fault_count old new entry size (Append (Stopped count)) = (old.log.journal.stopped ≡ true)
    × (count ≡ length old.log.history) × (new ≡ old)
IsUnwritten fault_count old new entry size (Append (Full commands bytes)) = (old.log.journal.stopped ≡ false)
    × IsTooFullFor old.log size × (commands ≡ length old.log.history) × (bytes ≡ written_size old.log + 1)
    × (new ≡ old)
IsUnwritten fault_count old new entry size (Append DiskFault) = MayAppend old.log size
    × (new.log.journal.stopped ≡ true) × (new.log.history ≡ old.log.history) × (new.log.failed ≡ entry ∷ [])
    × Rose (fault_count old.log.journal.disk) (fault_count new.log.journal.disk)
    × (new.outbox ≡ old.outbox) × (new.gateway ≡ old.gateway)

-- the reply that tells it
abbrev pub unwritten_reply : Unwritten → LaneReply
unwritten_reply NoMemory = replies.NoMemory
unwritten_reply (Append (Stopped count)) = replies.Stopped count
unwritten_reply (Append (Full commands size)) = replies.Full commands size
unwritten_reply (Append DiskFault) = replies.DiskFault

-- the disk was written to, or an append was tried
abbrev pub HasWritten : Result LaneReply Unwritten → Type 0
HasWritten (Ok reply) = ⊤
HasWritten (Err NoMemory) = ⊥
HasWritten (Err (Append fault)) = ⊤
