-- What a step leaves of a lane whose gateway was asked.
use Rattle.std.proofs.Common.{ℕ, ◌≡◌, List, length, Option, None, Some, IsSome, Result, Ok, Err}
use Rattle.std.proofs.Common.{false, true≢false, refl, sym, ap, subst, ◌∙◌}
use Rattle.kb_base.specs.declared.fault.Failed.{Failed}
use Rattle.std.proofs.lemmas.Option.{none-some}
use Rattle.kb_gateway.specs.Answers.{asked_of}
use Rattle.kb_gateway.specs.declared.order.Order.{Order}
use Rattle.kb_gateway.specs.declared.told.Told.{Told}
use Rattle.kb_gateway.specs.declared.told.Told.TheVariants as told
use Rattle.kb_gateway.specs.Told.{GatewayTold}
use Rattle.kb_codec.specs.declared.command.Command.{Command}
use Rattle.kb_codec.specs.declared.command.Command.TheVariants as kinds
use Rattle.kb_payment.specs.declared.attempt.Attempt.{Attempt}
use Rattle.kb_payment.specs.declared.attempt.Status.{Status}
use Rattle.kb_payment.specs.declared.attempt.Status.TheVariants as status
use Rattle.kb_payment.specs.PaymentSums.{attempt_of}
use Rattle.kb_book.specs.Books.{BookValue}
use Rattle.kb_journal.specs.declared.fault.AppendFault.{AppendFault}
use Rattle.kb_journal.specs.declared.fault.AppendFault.TheVariants as fault
use Rattle.kb_book.specs.declared.step.Step.{Step}
use Rattle.kb_book.specs.declared.step.Step.TheVariants as steps
use Rattle.kb_codec.specs.Entries.{Entry, payload}
use Rattle.kb_lane.specs.Logs.{Appends}
use Rattle.kb_machine.specs.Machines.{MachineValue, book_of}
use Rattle.kb_lane.specs.declared.work.Work.{Work}
use Rattle.kb_lane.specs.Lanes.{LaneValue}
use Rattle.kb_histories.specs.Attempts.{attempt_in}
use Rattle.kb_lane.specs.Asking.{asked_for, attempt_asked}
use Rattle.kb_lane.specs.Orders.{order_for, order_in, order_of, settled_by}
use Rattle.kb_lane.specs.Private.Settlements.{fault_step}
use Rattle.kb_lane.proofs.Settled.{some-same}
use Rattle.kb_lane.specs.Draining.{with_outbox, Writes, Accepts, Asks, Orders}
use Rattle.kb_lane.specs.Private.Runs.{SettlesNone, IsBusy}

-- of the lane before, log and outbox alone count
pub writes_from : {D G : Type 0} (fault_count : D → ℕ) (old other new : LaneValue D G)
    (entry : Entry) (step : Step)
    → other.log ≡ old.log → other.outbox ≡ old.outbox → Writes fault_count old new entry step
    → Writes fault_count other new entry step
writes_from fault_count old other new entry steps.Idle log outbox writes = elim writes [ ]
writes_from fault_count old other new entry steps.Done log outbox writes = record {
  history = rw log writes.history;
  outbox = rw outbox writes.outbox;
  failed = rw log writes.failed;
  running = writes.running;
  may = rw log writes.may;
}
writes_from fault_count old other new entry steps.DiskFault log outbox writes = record {
  history = rw log writes.history;
  outbox = rw outbox writes.outbox;
  marked = writes.marked;
  may = rw log writes.may;
  stopped = writes.stopped;
  cause = rw log writes.cause;
}
writes_from fault_count old other new entry (steps.Stopped count) log outbox writes =
    (rw log writes.0, rw log writes.1, (rw log writes.2.0, rw outbox writes.2.1))
writes_from fault_count old other new entry (steps.Full commands size) log outbox writes = (
  rw log writes.0,
  rw log writes.1,
  rw log writes.2,
  rw log writes.3,
  (rw log writes.4.0, rw outbox writes.4.1),
)
writes_from fault_count old other new entry steps.NoMemory log outbox writes =
    (rw log writes.0, rw outbox writes.1)

module _ {D G : Type 0} (fault_count : D → ℕ) (gateways : GatewayTold G) (old new : LaneValue D G)
    (today : ℕ) (account key : List ℕ) (later : List Work) where
  -- a lane that runs doesn't tell that it has stopped
  not-stopped : (command : Option Command) (count : ℕ) → old.log.journal.stopped ≡ false
      → Accepts fault_count (with_outbox old later) new today command (steps.Stopped count) → ⊥
  not-stopped None count running settles = absurd (let no = settles.0 in cc)
  not-stopped (Some command) count running settles = true≢false (sym settles.0 ∙ running)

  -- what an answer leaves is what the handling of its order leaves
  pub asks_orders : (step : Step) → IsBusy step
      → Asks fault_count gateways old new today account key later step
      → Orders fault_count gateways old new today account key later step
  asks_orders steps.Idle busy asks = absurd busy
  asks_orders steps.Done busy asks = asks
  asks_orders steps.DiskFault busy asks = asks
  asks_orders (steps.Stopped count) busy asks =
      absurd (not-stopped (settled_by account key asks.answer) count asks.running asks.settled)
  asks_orders (steps.Full commands size) busy asks = asks
  asks_orders steps.NoMemory busy asks = absurd busy

-- the order of a payment is noted as that payment
pub order_asked : (machine : MachineValue) (account key : List ℕ) (order : Order)
    → order_of machine account key ≡ Some order → asked_of order ≡ asked_for (account, key)
order_asked machine account key order is = by_book (book_of machine account) is
  where
    by_attempt : (book : BookValue) (found : Option Attempt) → order_for account key book found ≡ Some order
        → asked_of order ≡ asked_for (account, key)
    by_attempt book None is = absurd (none-some order is)
    by_attempt book (Some attempt) is = ap asked_of (sym (some-same is))

    by_book : (found : Option BookValue) → order_in account key found ≡ Some order
        → asked_of order ≡ asked_for (account, key)
    by_book None is = absurd (none-some order is)
    by_book (Some book) is = by_attempt book (attempt_of book.payments key) is

-- a payment with an attempt has an order
pub order_there : (machine : MachineValue) (account key : List ℕ)
    → IsSome (attempt_asked machine (asked_for (account, key))) → IsSome (order_of machine account key)
order_there machine account key there = by_book (book_of machine account) there
  where
    by_attempt : (book : BookValue) (found : Option Attempt) → IsSome found
        → IsSome (order_for account key book found)
    by_attempt book None there = absurd (true≢false (sym there))
    by_attempt book (Some attempt) there = refl

    by_book : (found : Option BookValue) → IsSome (attempt_in key found)
        → IsSome (order_in account key found)
    by_book None there = absurd (true≢false (sym there))
    by_book (Some book) there = by_attempt book (attempt_of book.payments key) there

-- the settlement by an answer settles none of the payments that are left
pub settled_frees : (account key : List ℕ) (answer : Result Told Failed) (command : Command)
    (later : List Work)
    → settled_by account key answer ≡ Some command
    → ((status : Status) → SettlesNone (kinds.Settle (record {
      account = account;
      payment = key;
      status = status;
    })) later)
    → SettlesNone command later
settled_frees account key (Ok told.Processed) command later is frees =
    subst (λ it. SettlesNone it later) (some-same is) (frees status.Success)
settled_frees account key (Ok told.Pending) command later is frees =
    subst (λ it. SettlesNone it later) (some-same is) (frees status.Pending)
settled_frees account key (Ok told.Error) command later is frees =
    subst (λ it. SettlesNone it later) (some-same is) (frees status.PaymentFailure)
settled_frees account key (Ok told.Canceled) command later is frees =
    subst (λ it. SettlesNone it later) (some-same is) (frees status.PluginFailure)
settled_frees account key (Ok told.Undefined) command later is frees = absurd (none-some command is)
settled_frees account key (Err failed) command later is frees = absurd (none-some command is)

-- what a failed append leaves
pub failed_writes : {D G : Type 0} (fault_count : D → ℕ) (old new : LaneValue D G) (entry : Entry)
    (fault : AppendFault) → Appends fault_count old.log new.log entry (length (payload entry)) (Err fault)
    → new.outbox ≡ old.outbox → Writes fault_count old new entry (fault_step fault)
failed_writes fault_count old new entry (fault.Stopped count) appends same =
    (appends.0, appends.1, (appends.2, same))
failed_writes fault_count old new entry (fault.Full commands bytes) appends same =
    (appends.0, appends.1, appends.2, appends.3, (appends.4, same))
failed_writes fault_count old new entry fault.DiskFault appends same = record {
  history = appends.2;
  outbox = same;
  marked = appends.3;
  may = appends.0;
  stopped = appends.1;
  cause = appends.4;
}
