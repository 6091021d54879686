-- What the look-up of a payment does to a log.
use Rattle.std.proofs.Common.{◌≡◌, ℕ, Bool, false, true≢false, Option, None, Some, List, refl, sym, ap}
use Rattle.std.proofs.Common.{◌∙◌}
use Rattle.kb_codec.specs.declared.command.Command.{Command}
use Rattle.kb_gateway.specs.declared.order.Asked.{Asked}
use Rattle.kb_gateway.specs.Told.{GatewayTold}
use Rattle.kb_book.specs.declared.step.Step.{Step}
use Rattle.kb_book.specs.declared.step.Step.TheVariants as steps
use Rattle.kb_lane.specs.Lanes.{LaneValue, StandsWithin}
use Rattle.kb_lane.specs.Draining.{Accepts}
use Rattle.kb_lane.specs.LookingUp.{Looked, LooksUp}
use Rattle.kb_lane.specs.Going.{GoesOn, GoesWell, StandsPast}
use Rattle.kb_lane.proofs.Within.{past_none}

module _ {D G : Type 0} (honest : D → Bool) (moment : D → ℕ) (left_since : D → ℕ → List ℕ → Type 0)
    (fault_count : D → ℕ) (gateways : GatewayTold G)
    (today : ℕ) (old new : LaneValue D G) (one : Asked)
    (further : GoesOn old.log.history new.log.history)
    (within : StandsWithin honest moment left_since old.log new.log) where
  -- a step that isn't done leaves the log as it was, or stops it
  left : (command : Option Command) (step : Step) → Accepts fault_count old new today command step
      → (step ≡ steps.Done → StandsPast honest moment left_since old.log new.log)
      → new.log.journal.stopped ≡ false → StandsPast honest moment left_since old.log new.log
  left None step accepts done running = done accepts.0
  left (Some command) steps.Idle accepts done running = elim accepts [ ]
  left (Some command) steps.Done accepts done running = done refl
  left (Some command) steps.DiskFault accepts done running =
      absurd (true≢false (sym accepts.stopped ∙ running))
  left (Some command) (steps.Stopped count) accepts done running =
      past_none honest moment left_since old.log new.log accepts.2.0
  left (Some command) (steps.Full commands size) accepts done running =
      past_none honest moment left_since old.log new.log accepts.4.0
  left (Some command) steps.NoMemory accepts done running =
      past_none honest moment left_since old.log new.log accepts.0

  ran : (step : Step) → LooksUp fault_count gateways old new today one step
      → (step ≡ steps.Done → StandsPast honest moment left_since old.log new.log)
      → GoesWell honest moment left_since old.log new.log
  ran step looks done = record {
    further = further;
    within = within;
    past = left _ step looks.settled done;
    still = λ stopped. absurd (true≢false (sym stopped ∙ looks.running));
  }

  -- the look-up of a payment
  pub looked_well : (step : Step) → Looked fault_count gateways today old new one step
      → (step ≡ steps.Done → StandsPast honest moment left_since old.log new.log)
      → GoesWell honest moment left_since old.log new.log
  looked_well (steps.Stopped count) looked done = record {
    further = further;
    within = within;
    past = λ running. past_none honest moment left_since old.log new.log (ap (λ lane. lane.log) looked.2);
    still = λ stopped. ap (λ lane. lane.log) looked.2;
  }
  looked_well steps.Idle looked done = ran steps.Idle looked done
  looked_well steps.Done looked done = ran steps.Done looked done
  looked_well steps.DiskFault looked done = ran steps.DiskFault looked done
  looked_well (steps.Full commands size) looked done = ran (steps.Full commands size) looked done
  looked_well steps.NoMemory looked done = ran steps.NoMemory looked done
