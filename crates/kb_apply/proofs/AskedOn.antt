-- What gateways are asked over a run is what their lanes ask for.
use Rattle.std.proofs.Common.{◌≡◌, ℕ, zero, suc, List, [], ◌∷◌, ◌++◌, map, Option, None, Some}
use Rattle.std.proofs.Common.{Result, refl, sym, ap, ◌∙◌}
use Rattle.std.proofs.lemmas.List.{append_assoc, append-nil, map-append}
use Rattle.kb_book.specs.declared.step.Step.{Step}
use Rattle.kb_book.specs.declared.step.Step.TheVariants as steps
use Rattle.kb_codec.specs.declared.command.Command.{Command}
use Rattle.kb_gateway.specs.Answers.{asked_of}
use Rattle.kb_gateway.specs.declared.order.Asked.{Asked}
use Rattle.kb_gateway.specs.declared.order.Order.{Order}
use Rattle.kb_gateway.specs.Told.{GatewayTold, payments_asked, payments_in}
use Rattle.kb_ports.specs.Notes.{Notes}
use Rattle.kb_lane.specs.declared.work.Work.{Work}
use Rattle.kb_lane.specs.declared.work.Work.TheVariants.{Ask, Check}
use Rattle.kb_lane.specs.Draining.{due_of, Asks, Looks, Orders}
use Rattle.kb_lane.specs.Drains.{EndsAfter, Handles, HandlesFront}
use Rattle.kb_lane.specs.Lanes.{LaneValue, machine_of}
use Rattle.kb_runs.specs.Reading.{Known}
use Rattle.kb_runs.specs.declared.stop.Stop.{Stop}
use Rattle.kb_desk.specs.Continuing.{ContinueAll}
use Rattle.kb_apply.specs.Applying.{Applies}
use Rattle.kb_apply.specs.LaneRuns.{Outside, LanesValue, lanes_machine}
use Rattle.kb_apply.proofs.EachLane.{IsOverLane, over_lanes}
use Rattle.kb_apply.proofs.OverRuns.{over_run}

-- What was told at last was told before, with these payments at its end.
abbrev EndsSo : Option (List Asked) → Option (List Asked) → List Asked → Type 0
EndsSo before after more = (all : List Asked) → after ≡ Some all
    → (some : List Asked) × (before ≡ Some some) × (all ≡ some ++ more)

-- A lane asked for some payments more, and its gateway was asked just for these, where it tells that.
pub record AsksOn {D G : Type 0} (gateways : GatewayTold G) (old new : LaneValue D G) : Type 0 where
  pub more : List Asked
  pub own : new.own ≡ old.own ++ more
  pub told : EndsSo (payments_asked gateways old.gateway) (payments_asked gateways new.gateway) more

-- a note of an order is one of its payment
noted_payment : (before after : Option (List Order)) (order : Order) → Notes before order after
    → EndsSo (payments_in before) (payments_in after) (asked_of order ∷ [])
noted_payment before None order noted all is = absurd (cc)
noted_payment None (Some after) order noted all is = elim noted [ ]
noted_payment (Some before) (Some after) order noted all is =
    let same : all ≡ map asked_of after = cc in
    (map asked_of before, refl, same ∙ ap (map asked_of) noted ∙ map-append asked_of before (order ∷ []))

module _ {D G C : Type 0} (outside : Outside D G C) where
  abbrev GoesOn : LaneValue D G → LaneValue D G → Type 0
  GoesOn lane next = AsksOn outside.gateways lane next

  -- nothing is asked
  silent : (lane next : LaneValue D G)
      → payments_asked outside.gateways next.gateway ≡ payments_asked outside.gateways lane.gateway
      → next.own ≡ lane.own → GoesOn lane next
  silent lane next same own = record {
    more = [];
    own = own ∙ sym (append-nil lane.own);
    told = λ all is. (all, sym same ∙ is, sym (append-nil all));
  }

  goes_then : (one two three : LaneValue D G) → GoesOn one two → GoesOn two three → GoesOn one three
  goes_then one two three first second = record {
    more = first.more ++ second.more;
    own = second.own ∙ ap (λ own. own ++ second.more) first.own ∙ append_assoc one.own first.more second.more;
    told = λ all is.
        let later = second.told all is in
        let early = first.told later.0 later.1 in (
          early.0,
          early.1,
          later.2 ∙ ap (λ some. some ++ second.more) early.2
              ∙ append_assoc early.0 first.more second.more,
        );
  }

  as_it_was : (lane next : LaneValue D G) → next ≡ lane → GoesOn lane next
  as_it_was lane next same =
      silent lane next (ap (λ (l : LaneValue D G). payments_asked outside.gateways l.gateway) same)
      (ap (λ (l : LaneValue D G). l.own) same)

  asks : (today : ℕ) (account key : List ℕ) (later : List Work) (lane next : LaneValue D G) (step : Step)
      → Asks outside.disks.fault_count outside.gateways lane next today account key later step
      → GoesOn lane next
  asks today account key later lane next step asked = record {
    more = asked_of asked.order ∷ [];
    own = asked.own;
    told = noted_payment (outside.gateways.asked lane.gateway) (outside.gateways.asked next.gateway) asked.order
        asked.heard.noted;
  }

  orders : (today : ℕ) (account key : List ℕ) (later : List Work) (lane next : LaneValue D G) (step : Step)
      → Orders outside.disks.fault_count outside.gateways lane next today account key later step
      → GoesOn lane next
  orders today account key later lane next (steps.Stopped count) is = as_it_was lane next is.2
  orders today account key later lane next steps.NoMemory is = as_it_was lane next is
  orders today account key later lane next steps.Idle is = asks today account key later lane next _ is
  orders today account key later lane next steps.Done is = asks today account key later lane next _ is
  orders today account key later lane next steps.DiskFault is = asks today account key later lane next _ is
  orders today account key later lane next (steps.Full commands size) is =
      asks today account key later lane next _ is

  looks : (today : ℕ) (front : Work) (later : List Work) (due : Option Command) (lane next : LaneValue D G)
      (step : Step) → Looks outside.disks.fault_count lane next today front later due step → GoesOn lane next
  looks today front later None lane next step is =
      silent lane next (ap (λ (l : LaneValue D G). payments_asked outside.gateways l.gateway) is.1)
      (ap (λ (l : LaneValue D G). l.own) is.1)
  looks today front later (Some command) lane next step is =
      silent lane next (ap (payments_asked outside.gateways) is.1) is.2

  front : (today : ℕ) (works : List Work) (lane next : LaneValue D G) (step : Step)
      → HandlesFront outside.disks.fault_count outside.gateways today works lane next step → GoesOn lane next
  front today [] lane next step is = as_it_was lane next is.1
  front today (Check account ∷ later) lane next step is =
      looks today (Check account) later (due_of (machine_of lane) today account) lane next step is
  front today (Ask account key ∷ later) lane next step is =
      orders today account key later lane next step is

  drains : (today count : ℕ) (lane next : LaneValue D G) (step : Step)
      → EndsAfter (Handles outside.disks.fault_count outside.gateways today) count lane next step
      → GoesOn lane next
  drains today zero lane next step is = front today lane.outbox lane next step is.1
  drains today (suc count) lane next step (between, first, later) =
      goes_then lane between next (front today lane.outbox lane between steps.Done first)
      (drains today count between next step later)

  over : IsOverLane outside GoesOn
  over = record {
    stays = λ lane. as_it_was lane lane refl;
    goes_then = goes_then;
    performs = λ today command reply lane next does.
        silent lane next (ap (payments_asked outside.gateways) does.0.gateway) does.0.own;
    looks_up = λ today step lane next does.
        silent lane next (ap payments_in does.0.silent) does.0.own;
    drains = λ today step lane next does. drains today does.0.0 lane next step does.0.2;
  }

  -- it holds of each lane over a run
  pub run_asks_on : (first last : LanesValue D G C) (left left_after written written_after : Known)
      (outcome : Result (Unit {0}) Stop)
      → Applies (lanes_machine outside) first left left_after written written_after last outcome
      → ContinueAll GoesOn first.lanes last.lanes
  run_asks_on = over_run outside (λ old new. ContinueAll GoesOn old.lanes new.lanes)
      (over_lanes outside GoesOn over)
