-- How a lane sends a command.
use Rattle.std.specs.Prelude.{ℕ, ◌+◌, Bool, true, false, List, Result, Ok, Err}
use Rattle.kb_base.specs.declared.fault.NoMemory.{NoMemory}
use Rattle.kb_codec.specs.Entries.{Entry}
use Rattle.kb_machine.specs.Machines.{MachineValue}
use Rattle.kb_book.specs.declared.reply.LaneReply.{LaneReply}
use Rattle.kb_book.specs.declared.reply.LaneReply.TheVariants as replies
use Rattle.kb_lane.specs.Lanes.{LaneValue, machine_of}
use Rattle.kb_make.specs.Makes.{Busy, Sends}

-- accounts and texts of a lane, and what it is yet to do
abbrev pub busy_of : {D G : Type 0} → LaneValue D G → Busy
busy_of lane = record { machine = machine_of lane; works = lane.outbox }

-- whether a reply tells that its command is refused; that of a lane that can't take it tells neither
abbrev pub told_refused : LaneReply → Result Bool NoMemory
told_refused (replies.Accepted answer) = Ok false
told_refused (replies.Version number) = Ok false
told_refused (replies.States number) = Ok false
told_refused (replies.Refused refusal) = Ok true
told_refused replies.DiskFault = Err (record {})
told_refused (replies.Stopped count) = Err (record {})
told_refused (replies.Full commands size) = Err (record {})
told_refused replies.NoMemory = Err (record {})

-- Commands that are left to send complete all of them, of which so many were refused.
abbrev pub Completes : MachineValue → List Entry → MachineValue → List Entry → ℕ → Type 0
Completes first all now left refused = (last : MachineValue) (others : ℕ) → Sends now left last others
    → Sends first all last (refused + others)
