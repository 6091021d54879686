-- How the outbox of a lane is handled to its end.
use Rattle.std.specs.Prelude.{ℕ, zero, suc, ◌≡◌, ◌≤◌, List, [], ◌∷◌}
use Rattle.kb_gateway.specs.Told.{GatewayTold}
use Rattle.kb_book.specs.declared.step.Step.{Step}
use Rattle.kb_book.specs.declared.step.Step.TheVariants as steps
use Rattle.kb_lane.specs.declared.work.Work.{Work}
use Rattle.kb_lane.specs.declared.work.Work.TheVariants.{Ask, Check}
use Rattle.kb_lane.specs.Lanes.{LaneValue, machine_of}
use Rattle.kb_lane.specs.Draining.{due_of, Looks, Orders}
use Rattle.kb_lane.specs.LaneWork.{lane_work}

-- What the handling of an outbox's front leaves: nothing to do, a look at an account, or an order.
abbrev pub HandlesFront : {D G : Type 0} → (D → ℕ) → GatewayTold G → ℕ → List Work → LaneValue D G
    → LaneValue D G → Step → Type 0
HandlesFront fault_count gateways today [] old new step = (step ≡ steps.Idle) × (new ≡ old)
HandlesFront fault_count gateways today (Check account ∷ later) old new step =
    Looks fault_count old new today (Check account) later (due_of (machine_of old) today account) step
HandlesFront fault_count gateways today (Ask account key ∷ later) old new step =
    Orders fault_count gateways old new today account key later step

abbrev pub Handles : {D G : Type 0} → (D → ℕ) → GatewayTold G → ℕ → LaneValue D G → LaneValue D G → Step
    → Type 0
Handles fault_count gateways today old new step =
    HandlesFront fault_count gateways today old.outbox old new step

-- So many entries are handled, and the step after them isn't done.
abbrev pub EndsAfter : {L : Type 0} → (L → L → Step → Type 0) → ℕ → L → L → Step → Type 0
EndsAfter Steps zero old new step = ((step ≡ steps.Done → ⊥) × Steps old new step)
EndsAfter Steps (suc count) old new step = (between : _) × Steps old between steps.Done
    × EndsAfter Steps count between new step

-- Entries are handled up to a step that isn't done: no more than the work that was left.
abbrev pub Drains : {D G : Type 0} → (D → ℕ) → GatewayTold G → ℕ → LaneValue D G → LaneValue D G → Step
    → Type 0
Drains fault_count gateways today old new step = (count : ℕ) × (count ≤ lane_work today old)
    × EndsAfter (Handles fault_count gateways today) count old new step
