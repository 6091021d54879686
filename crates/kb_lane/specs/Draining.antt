-- How a lane handles the entry at the front of its outbox.
use Rattle.std.specs.Prelude.{ℕ, ◌≡◌, ◌+◌, ◌⊎◌, true, false, List, [], ◌∷◌, ◌++◌, length, Option, None, Some}
use Rattle.std.specs.Prelude.{Result, Ok}
use Rattle.kb_base.specs.declared.fault.Failed.{Failed}
use Rattle.kb_base.specs.Faults.{HasCause}
use Rattle.kb_gateway.specs.declared.order.Order.{Order}
use Rattle.kb_gateway.specs.declared.told.Told.{Told}
use Rattle.kb_gateway.specs.declared.told.Told.TheVariants as told
use Rattle.kb_ports.specs.Notes.{Notes}
use Rattle.kb_gateway.specs.Answers.{asked_of, said_of_ask}
use Rattle.kb_gateway.specs.Told.{GatewayTold}
use Rattle.kb_codec.specs.declared.command.Command.{Command}
use Rattle.kb_book.specs.Books.{BookValue}
use Rattle.kb_book.specs.NextDues.{next_due}
use Rattle.kb_book.specs.declared.step.Step.{Step}
use Rattle.kb_book.specs.declared.step.Step.TheVariants as steps
use Rattle.kb_codec.specs.Entries.{Entry, payload}
use Rattle.kb_lane.specs.Logs.{LogValue, IsTooFullFor, written_size}
use Rattle.kb_machine.specs.Machines.{MachineValue, book_of}
use Rattle.kb_lane.specs.declared.work.Work.{Work}
use Rattle.kb_lane.specs.Orders.{order_of, settled_by}
use Rattle.kb_lane.specs.Lanes.{LaneValue, machine_of}
use Rattle.kb_lane.specs.Replies.{Takes, IsMarked}

-- what an account asks for by itself, if it is there
abbrev pub due_in : MachineValue → ℕ → Option BookValue → Option Command
due_in machine today None = None
due_in machine today (Some book) = next_due machine.texts.world book today

abbrev pub due_of : MachineValue → ℕ → List ℕ → Option Command
due_of machine today account = due_in machine today (book_of machine account)

-- the lane with these works
abbrev pub with_outbox : {D G : Type 0} → LaneValue D G → List Work → LaneValue D G
with_outbox lane works = record lane { outbox = works }

-- log and outbox are as they were
abbrev pub IsLeft : {D G : Type 0} → LaneValue D G → LaneValue D G → Type 0
IsLeft old new = (new.log ≡ old.log) × (new.outbox ≡ old.outbox)

-- What a step leaves that accepts a command: it is taken; or the disk failed, and it is marked; or the lane
-- had stopped, or there is no room, or memory ran out, and log and outbox are as they were.
abbrev pub Writes : {D G : Type 0} → (D → ℕ) → LaneValue D G → LaneValue D G → Entry → Step → Type 0
Writes fault_count old new entry steps.Idle = ⊥
Writes fault_count old new entry steps.Done = Takes old new entry
Writes fault_count old new entry steps.DiskFault = IsMarked fault_count old new entry
Writes fault_count old new entry (steps.Stopped count) = (old.log.journal.stopped ≡ true)
    × (count ≡ length old.log.history) × IsLeft old new
Writes fault_count old new entry (steps.Full commands size) = (old.log.journal.stopped ≡ false)
    × IsTooFullFor old.log (length (payload entry)) × (commands ≡ length old.log.history)
    × (size ≡ written_size old.log + 1) × IsLeft old new
Writes fault_count old new entry steps.NoMemory = IsLeft old new

-- An entry stays at the front until its step is done.
abbrev pub works_after : Step → Work → List Work → List Work
works_after steps.Done front later = later
works_after step front later = front ∷ later

-- What a look at an account leaves: it accepts the command that is due, if one is.
abbrev pub Looks : {D G : Type 0} → (D → ℕ) → LaneValue D G → LaneValue D G → ℕ → Work → List Work
    → Option Command → Step → Type 0
Looks fault_count old new today front later None step = (step ≡ steps.Done) × (new ≡ with_outbox old later)
Looks fault_count old new today front later (Some command) step =
    Writes fault_count (with_outbox old (works_after step front later)) new (today, command) step
    × (new.gateway ≡ old.gateway) × (new.own ≡ old.own)

-- The gateway was asked for an order, and answered or failed. One that cancels each order answers that.
pub record IsAsked {G : Type 0} (gateways : GatewayTold G) (old new : G) (order : Order)
    (answer : Result Told Failed) : Type 0 where
  pub noted : Notes (gateways.asked old) order (gateways.asked new)
  pub heard : Notes (gateways.said old) (said_of_ask order answer) (gateways.said new)
  pub canceled : gateways.cancels old ≡ true → answer ≡ Ok told.Canceled
  pub same : gateways.cancels new ≡ gateways.cancels old
  pub cause : HasCause (gateways.faults old) (gateways.faults new) answer

-- What a step leaves that accepts a command, if there is one.
abbrev pub Accepts : {D G : Type 0} → (D → ℕ) → LaneValue D G → LaneValue D G → ℕ → Option Command → Step
    → Type 0
Accepts fault_count old new today None step = (step ≡ steps.Done) × IsLeft old new
Accepts fault_count old new today (Some command) step = Writes fault_count old new (today, command) step

-- The lane runs; its gateway was asked for the order of a payment, which is off the outbox, and by what it
-- answered the payment is settled. No memory is missing any more.
pub record Asks {D G : Type 0} (fault_count : D → ℕ) (gateways : GatewayTold G) (old new : LaneValue D G)
    (today : ℕ)
    (account key : List ℕ) (later : List Work) (step : Step) : Type 0 where
  pub running : old.log.journal.stopped ≡ false
  pub order : Order
  pub ordered : order_of (machine_of old) account key ≡ Some order
  pub answer : Result Told Failed
  pub heard : IsAsked gateways old.gateway new.gateway order answer
  pub own : new.own ≡ old.own ++ asked_of order ∷ []
  pub settled : Accepts fault_count (with_outbox old later) new today (settled_by account key answer) step
  pub ready : step ≡ steps.NoMemory → ⊥

-- What the handling of an order leaves: a lane that has stopped asks nothing, and nor does one that finds no
-- memory.
abbrev pub Orders : {D G : Type 0} → (D → ℕ) → GatewayTold G → LaneValue D G → LaneValue D G → ℕ → List ℕ
    → List ℕ → List Work → Step → Type 0
Orders fault_count gateways old new today account key later (steps.Stopped count) =
    (old.log.journal.stopped ≡ true) × (count ≡ length old.log.history) × (new ≡ old)
Orders fault_count gateways old new today account key later steps.NoMemory = new ≡ old
Orders fault_count gateways old new today account key later step =
    Asks fault_count gateways old new today account key later step

-- a command was written down, or is marked as the one with which the lane stopped
abbrev pub IsWritten : {D : Type 0} → LogValue D → LogValue D → Entry → Type 0
IsWritten old new entry = (new.history ≡ old.history ++ entry ∷ [])
    ⊎ ((old.journal.stopped ≡ false) × (new.journal.stopped ≡ true) × (new.failed ≡ entry ∷ []))
