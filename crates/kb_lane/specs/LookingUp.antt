-- How a lane looks up what became of its open payments.
use Rattle.std.specs.Prelude.{ℕ, ◌≡◌, not, ◌&&◌, Bool, true, false, bytes_eq, List, [], ◌∷◌, map, filter}
use Rattle.std.specs.Prelude.{length, Option, None, Some, Result, Ok, Err, if◌then◌else◌, option_map, codes}
use Rattle.std.specs.Prelude.{refl, flat_map, ◌⊎◌}
use Rattle.std.specs.List.{list_any}
use Rattle.kb_base.specs.declared.fault.Failed.{Failed}
use Rattle.kb_base.specs.Faults.{HasCause}
use Rattle.kb_payment.specs.declared.attempt.Attempt.{Attempt}
use Rattle.kb_payment.specs.declared.attempt.Status.{Status}
use Rattle.kb_payment.specs.declared.attempt.Status.TheVariants as status
use Rattle.kb_payment.specs.PaymentSums.{open_keys}
use Rattle.kb_gateway.specs.declared.order.Asked.{Asked}
use Rattle.kb_gateway.specs.declared.order.Order.{Order}
use Rattle.kb_gateway.specs.declared.told.Told.TheVariants as told
use Rattle.kb_gateway.specs.declared.told.Seen.{Seen}
use Rattle.kb_gateway.specs.declared.told.Seen.TheVariants as seen
use Rattle.kb_ports.specs.Notes.{Notes}
use Rattle.kb_gateway.specs.Answers.{said_of_look_up, status_of}
use Rattle.kb_gateway.specs.Told.{GatewayTold}
use Rattle.kb_codec.specs.declared.command.Command.{Command}
use Rattle.kb_codec.specs.declared.command.Command.TheVariants as kinds
use Rattle.kb_book.specs.Books.{BookValue}
use Rattle.kb_book.specs.PaymentRows.{same_status}
use Rattle.kb_book.specs.declared.step.Step.{Step}
use Rattle.kb_book.specs.declared.step.Step.TheVariants as steps
use Rattle.kb_machine.specs.Machines.{MachineValue, book_of}
use Rattle.kb_lane.specs.declared.work.Work.{Work}
use Rattle.kb_lane.specs.declared.work.Work.TheVariants.{Ask, Check}
use Rattle.kb_lane.specs.Asking.{asked_for, attempt_asked}
use Rattle.kb_lane.specs.Lanes.{LaneValue, machine_of}
use Rattle.kb_lane.specs.Orders.{order_of}
use Rattle.kb_lane.specs.Draining.{Accepts}

-- the payments of an account whose attempts are open, by their keys
abbrev pub open_in : List ℕ → Option BookValue → List Asked
open_in account None = []
open_in account (Some book) = map (λ key. asked_for (account, key)) (open_keys book.payments)

-- those of all accounts, by their names
abbrev pub open_payments : MachineValue → List Asked
open_payments machine =
    flat_map (λ account. open_in account (book_of machine account)) (map (λ entry. entry.0) machine.books)

-- an entry of an outbox asks for this payment
abbrev pub is_ask : Asked → Work → Bool
is_ask one (Ask account key) = bytes_eq account one.account && bytes_eq key one.key
is_ask one (Check account) = false

-- The payments to look up: those with open attempts for which the outbox isn't yet to ask.
abbrev pub to_look_up : {D G : Type 0} → LaneValue D G → List Asked
to_look_up lane = filter (λ one. not (list_any (is_ask one) lane.outbox)) (open_payments (machine_of lane))

-- the status of an attempt by what its gateway has seen of it: an order that it never saw has failed
abbrev pub seen_status : Seen → Status
seen_status (seen.Told answer) = status_of answer
seen_status seen.NotSeen = status.PluginFailure

-- the status that a look-up tells, if that isn't the present one; none if it failed
abbrev pub news : Status → Result Seen Failed → Option Status
news present (Err failed) = None
news present (Ok answer) = if same_status present (seen_status answer) then None else Some
    (seen_status answer)

-- the settlement of an attempt of this status by a look-up
abbrev pub resettled : List ℕ → List ℕ → Status → Result Seen Failed → Option Command
resettled account key present answer =
    option_map (λ told. kinds.Settle (record { account = account; payment = key; status = told }))
    (news present answer)

one_that_never_came : resettled (codes "a1") (codes "p1") status.Unknown (Ok seen.NotSeen)
    ≡ Some (kinds.Settle
    (record { account = codes "a1"; payment = codes "p1"; status = status.PluginFailure }))
one_that_never_came = refl

still_pending : resettled (codes "a1") (codes "p1") status.Pending (Ok (seen.Told told.Pending)) ≡ None
still_pending = refl

no_more_pending : resettled (codes "a1") (codes "p1") status.Pending (Ok (seen.Told told.Undefined)) ≡ Some
    (kinds.Settle (record { account = codes "a1"; payment = codes "p1"; status = status.Unknown }))
no_more_pending = refl

-- The gateway looked an order up, and answered or failed. It was asked for nothing. One that cancels each
-- order has seen none.
pub record IsLookedUp {G : Type 0} (gateways : GatewayTold G) (old new : G) (order : Order)
    (answer : Result Seen Failed) : Type 0 where
  pub silent : gateways.asked new ≡ gateways.asked old
  pub heard : Notes (gateways.said old) (said_of_look_up order answer) (gateways.said new)
  pub unseen : gateways.cancels old ≡ true → answer ≡ Ok seen.NotSeen
  pub same : gateways.cancels new ≡ gateways.cancels old
  pub cause : HasCause (gateways.faults old) (gateways.faults new) answer

-- The lane runs; its gateway looked a payment up, and by what it answered the payment is settled, if that is
-- news.
pub record LooksUp {D G : Type 0} (fault_count : D → ℕ) (gateways : GatewayTold G) (old new : LaneValue D G)
    (today : ℕ) (one : Asked)
    (step : Step) : Type 0 where
  pub running : old.log.journal.stopped ≡ false
  pub order : Order
  pub ordered : order_of (machine_of old) one.account one.key ≡ Some order
  pub attempt : Attempt
  pub there : attempt_asked (machine_of old) one ≡ Some attempt
  pub answer : Result Seen Failed
  pub heard : IsLookedUp gateways old.gateway new.gateway order answer
  pub own : new.own ≡ old.own
  pub settled : Accepts fault_count old new today (resettled one.account one.key attempt.status answer) step

-- What the handling of an open payment leaves: a lane that has stopped looks nothing up.
abbrev pub Looked : {D G : Type 0} → (D → ℕ) → GatewayTold G → ℕ → LaneValue D G → LaneValue D G → Asked
    → Step → Type 0
Looked fault_count gateways today old new one (steps.Stopped count) =
    (old.log.journal.stopped ≡ true) × (count ≡ length old.log.history) × (new ≡ old)
Looked fault_count gateways today old new one step =
    LooksUp fault_count gateways old new today one step

-- Some are handled one after another, up to the first step that isn't done.
abbrev pub EachDone : {L A : Type 0} → (L → L → A → Step → Type 0) → L → L → List A → Step → Type 0
EachDone Handles old new [] step = (step ≡ steps.Done) × (new ≡ old)
EachDone Handles old new (one ∷ later) step = ((step ≡ steps.Done → ⊥) × Handles old new one step)
    ⊎ ((between : _) × Handles old between one steps.Done × EachDone Handles between new later step)

-- What a lane leaves that looks its open payments up: each, up to the first step that isn't done, or none
-- if there is no memory for the list of them; and it asks for nothing.
pub record LooksAllUp {D G : Type 0} (fault_count : D → ℕ) (gateways : GatewayTold G) (today : ℕ)
    (old new : LaneValue D G) (step : Step)
    : Type 0 where
  pub busy : step ≡ steps.Idle → ⊥
  pub looked : EachDone (Looked fault_count gateways today) old new (to_look_up old) step
      ⊎ ((step ≡ steps.NoMemory) × (new ≡ old))
  pub silent : gateways.asked new.gateway ≡ gateways.asked old.gateway
  pub own : new.own ≡ old.own
