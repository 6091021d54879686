-- One entry of an outbox, and a run of them.
use Rattle.std.proofs.Common.{◌≡◌, ℕ, suc, ◌≤◌, ◌+◌, arith, Bool, List, [], ◌∷◌, Option, None, Some, ap}
use Rattle.kb_codec.specs.declared.command.Command.{Command}
use Rattle.kb_book.specs.declared.step.Step.{Step}
use Rattle.kb_book.specs.declared.step.Step.TheVariants as steps
use Rattle.kb_codec.specs.Entries.{Entry}
use Rattle.kb_gateway.specs.Told.{GatewayTold}
use Rattle.kb_lane.specs.declared.work.Work.{Work}
use Rattle.kb_lane.specs.declared.work.Work.TheVariants.{Ask, Check}
use Rattle.kb_lane.specs.Lanes.{LaneValue, StandsThroughout, machine_of}
use Rattle.kb_lane.specs.Going.{GoesWell}
use Rattle.kb_lane.specs.Orders.{settled_by}
use Rattle.kb_lane.specs.Draining.{due_of, with_outbox, works_after, IsWritten, Looks, Asks, Orders}
use Rattle.kb_lane.proofs.Going.{well_none, well_writes, well_accepts}
use Rattle.kb_lane.specs.Drains.{HandlesFront, EndsAfter}

module _ {D G : Type 0} (fault_count : D → ℕ) (gateways : GatewayTold G) (today : ℕ)
    (old new : LaneValue D G) (step : Step) where
  -- what is told of each kind of front tells of whichever stands there
  pub handles_front : (outbox : List Work) → old.outbox ≡ outbox
      → (old.outbox ≡ [] → step ≡ steps.Idle) → (old.outbox ≡ [] → new ≡ old)
      → ((account : List ℕ) (later : List Work) → old.outbox ≡ Check account ∷ later
      → Looks fault_count old new today (Check account) later (due_of (machine_of old) today account) step)
      → ((account key : List ℕ) (later : List Work) → old.outbox ≡ Ask account key ∷ later
      → Orders fault_count gateways old new today account key later step)
      → HandlesFront fault_count gateways today outbox old new step
  handles_front [] is idle rests looks orders = (idle is, rests is)
  handles_front (Check account ∷ later) is idle rests looks orders = looks account later is
  handles_front (Ask account key ∷ later) is idle rests looks orders = orders account key later is

  -- the log goes on well
  module _ (honest : D → Bool) (moment : D → ℕ) (left_since : D → ℕ → List ℕ → Type 0)
      (lanes : new.log.journal.lanes ≡ old.log.journal.lanes)
      (lane : new.log.journal.lane ≡ old.log.journal.lane)
      (moments : (other : Entry) → IsWritten old.log new.log other
      → StandsThroughout honest moment left_since old.log new.log other) where
    looks-well : (account : List ℕ) (later : List Work) (due : Option Command)
        → Looks fault_count old new today (Check account) later due step
        → GoesWell honest moment left_since old.log new.log
    looks-well account later None looks =
        well_none honest moment left_since old.log new.log (ap (λ lane. lane.log) looks.1)
    looks-well account later (Some command) looks =
        well_writes honest moment left_since fault_count
        (with_outbox old (works_after step (Check account) later))
        new (today, command) lanes lane step looks.0 moments

    asks-well : (account key : List ℕ) (later : List Work) (how : Step)
        → Asks fault_count gateways old new today account key later how
        → GoesWell honest moment left_since old.log new.log
    asks-well account key later how asks =
        well_accepts honest moment left_since fault_count (with_outbox old later) new today lanes lane
        (settled_by account key asks.answer) how asks.settled moments

    orders-well : (account key : List ℕ) (later : List Work) (how : Step)
        → Orders fault_count gateways old new today account key later how
        → GoesWell honest moment left_since old.log new.log
    orders-well account key later (steps.Stopped count) orders =
        well_none honest moment left_since old.log new.log (ap (λ lane. lane.log) orders.2)
    orders-well account key later steps.NoMemory orders =
        well_none honest moment left_since old.log new.log (ap (λ lane. lane.log) orders)
    orders-well account key later steps.Idle orders = asks-well account key later steps.Idle orders
    orders-well account key later steps.Done orders = asks-well account key later steps.Done orders
    orders-well account key later steps.DiskFault orders = asks-well account key later steps.DiskFault orders
    orders-well account key later (steps.Full commands size) orders =
        asks-well account key later (steps.Full commands size) orders

    pub front_well : (outbox : List Work) → HandlesFront fault_count gateways today
        outbox old new step
        → GoesWell honest moment left_since old.log new.log
    front_well [] handles = well_none honest moment left_since old.log new.log
        (ap (λ lane. lane.log) handles.1)
    front_well (Check account ∷ later) handles =
        looks-well account later (due_of (machine_of old) today account) handles
    front_well (Ask account key ∷ later) handles = orders-well account key later step handles

-- What was handled so far, in no more steps than the work that it took off: whatever ends from here on
-- ended from the start on.
module _ {L : Type 0} (Steps : L → L → Step → Type 0) (work : L → ℕ) (start : L) where
  pub ended : (now new : L) (step : Step) (handled : ℕ) → handled + work now ≤ work start
      → ((more : ℕ) (new : L) (step : Step) → EndsAfter Steps more now new step
      → (count : ℕ) × (count ≤ handled + more) × EndsAfter Steps count start new step)
      → (step ≡ steps.Done → ⊥) → Steps now new step
      → (count : ℕ) × (count ≤ work start) × EndsAfter Steps count start new step
  ended now new step handled few completes undone last =
      let all = completes 0 new step (undone, last) in
      (all.0, omega (arith, all.1, few), all.2)

  pub one_more : (now next : L) (handled : ℕ)
      → ((more : ℕ) (new : L) (step : Step) → EndsAfter Steps more now new step
      → (count : ℕ) × (count ≤ handled + more) × EndsAfter Steps count start new step)
      → Steps now next steps.Done
      → (more : ℕ) (new : L) (step : Step) → EndsAfter Steps more next new step
      → (count : ℕ) × (count ≤ (handled + 1) + more) × EndsAfter Steps count start new step
  one_more now next handled completes done more new step ends =
      let all = completes (suc more) new step (next, done, ends) in
      (all.0, omega (arith, all.1), all.2)
