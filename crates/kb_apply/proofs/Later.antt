-- What stays over a run: that a lane has stopped, that one had no room, and what gateways were heard to say.
use Rattle.std.specs.Prelude.{◌||◌}
use Rattle.std.proofs.Common.{◌≡◌, ℕ, zero, suc, inl, inr, Bool, true, false, List, [], ◌∷◌, ◌++◌, Option, None}
use Rattle.std.proofs.Common.{Some, refl, sym, ap, true≢false, ◌∙◌}
use Rattle.std.proofs.lemmas.List.{append_assoc, append-nil}
use Rattle.kb_book.specs.declared.step.Step.{Step}
use Rattle.kb_book.specs.declared.step.Step.TheVariants as steps
use Rattle.kb_codec.specs.Entries.{Entry}
use Rattle.kb_codec.specs.declared.command.Command.{Command}
use Rattle.kb_gateway.specs.declared.order.Asked.{Asked}
use Rattle.kb_gateway.specs.declared.told.Saying.{Saying}
use Rattle.kb_gateway.specs.Told.{GatewayTold}
use Rattle.kb_ports.specs.Notes.{Notes}
use Rattle.kb_lane.specs.declared.work.Work.{Work}
use Rattle.kb_lane.specs.declared.work.Work.TheVariants.{Ask, Check}
use Rattle.kb_lane.specs.Draining.{due_of, Asks, Looks, Orders, Writes}
use Rattle.kb_lane.specs.Drains.{EndsAfter, Handles, HandlesFront}
use Rattle.kb_lane.specs.Lanes.{LaneValue, machine_of}
use Rattle.kb_lane.specs.LookingUp.{EachDone, Looked, LooksUp, to_look_up}
use Rattle.kb_desk.specs.Continuing.{Continues, ContinueAll}
use Rattle.kb_apply.specs.LaneRuns.{Outside, LanesValue}
use Rattle.kb_apply.proofs.EachLane.{IsOverLane, over_lanes}
use Rattle.kb_apply.proofs.OverRuns.{IsOverSteps}

-- What a gateway was heard to say goes on, and it cancels orders as before.
pub record SaysOn {G : Type 0} (gateways : GatewayTold G) (old new : G) : Type 0 where
  pub cancels : gateways.cancels new ≡ gateways.cancels old
  pub said : (all : List Saying) → gateways.said new ≡ Some all
      → (some : List Saying) × (more : List Saying) × (gateways.said old ≡ Some some) × (all ≡ some ++ more)

pub says_same : {G : Type 0} (gateways : GatewayTold G) (old new : G) → new ≡ old → SaysOn gateways old new
says_same gateways old new same = record {
  cancels = ap gateways.cancels same;
  said = λ all is. (all, [], ap gateways.said (sym same) ∙ is, sym (append-nil all));
}

pub says_then : {G : Type 0} (gateways : GatewayTold G) (one two three : G) → SaysOn gateways one two
    → SaysOn gateways two three → SaysOn gateways one three
says_then gateways one two three first second = record {
  cancels = second.cancels ∙ first.cancels;
  said = λ all is.
      let later = second.said all is in
      let early = first.said later.0 later.2 in (
        early.0,
        early.1 ++ later.1,
        early.2,
        later.3 ∙ ap (λ some. some ++ later.1) early.3
            ∙ append_assoc early.0 early.1 later.1,
      );
}

-- a call is noted
pub says_noted : {G : Type 0} (gateways : GatewayTold G) (old new : G) (saying : Saying)
    → Notes (gateways.said old) saying (gateways.said new) → gateways.cancels new ≡ gateways.cancels old
    → SaysOn gateways old new
says_noted gateways old new saying noted same = record {
  cancels = same;
  said = λ all is. by_notes (gateways.said old) (gateways.said new) all noted is;
}
  where
    by_notes : (before after : Option (List Saying)) (all : List Saying) → Notes before saying after
        → after ≡ Some all
        → (some : List Saying) × (more : List Saying) × (before ≡ Some some) × (all ≡ some ++ more)
    by_notes before None all noted is = absurd (cc)
    by_notes None (Some after) all noted is = elim noted [ ]
    by_notes (Some before) (Some after) all noted is =
        let same : all ≡ after = cc in (before, saying ∷ [], refl, same ∙ noted)

-- A lane goes on: if it had stopped, it has; and what its gateway was heard to say goes on.
pub record GoesLater {D G : Type 0} (gateways : GatewayTold G) (old new : LaneValue D G) : Type 0 where
  pub still : old.log.journal.stopped ≡ true → new.log.journal.stopped ≡ true
  pub says : SaysOn gateways old.gateway new.gateway

module _ {D G C : Type 0} (outside : Outside D G C) where
  abbrev Says : LaneValue D G → LaneValue D G → Type 0
  Says lane next = SaysOn outside.gateways lane.gateway next.gateway

  abbrev GoesOn : LaneValue D G → LaneValue D G → Type 0
  GoesOn lane next = Continues outside.disks.honest outside.disks.moment outside.disks.left_since
      outside.disks.fault_count lane next

  same_gateway : (lane next : LaneValue D G) → next ≡ lane → Says lane next
  same_gateway lane next same = says_same outside.gateways lane.gateway next.gateway
      (ap (λ (l : LaneValue D G). l.gateway) same)

  asks : (today : ℕ) (account key : List ℕ) (later : List Work) (lane next : LaneValue D G) (step : Step)
      → Asks outside.disks.fault_count outside.gateways lane next today account key later step → Says lane next
  asks today account key later lane next step asked =
      says_noted outside.gateways lane.gateway next.gateway _ asked.heard.heard asked.heard.same

  orders : (today : ℕ) (account key : List ℕ) (later : List Work) (lane next : LaneValue D G) (step : Step)
      → Orders outside.disks.fault_count outside.gateways lane next today account key later step
      → Says lane next
  orders today account key later lane next (steps.Stopped count) is = same_gateway lane next is.2
  orders today account key later lane next steps.NoMemory is = same_gateway lane next is
  orders today account key later lane next steps.Idle is = asks today account key later lane next _ is
  orders today account key later lane next steps.Done is = asks today account key later lane next _ is
  orders today account key later lane next steps.DiskFault is = asks today account key later lane next _ is
  orders today account key later lane next (steps.Full commands size) is =
      asks today account key later lane next _ is

  looks : (today : ℕ) (front : Work) (later : List Work) (due : Option Command) (lane next : LaneValue D G)
      (step : Step) → Looks outside.disks.fault_count lane next today front later due step → Says lane next
  looks today front later None lane next step is =
      says_same outside.gateways lane.gateway next.gateway (ap (λ (l : LaneValue D G). l.gateway) is.1)
  looks today front later (Some command) lane next step is =
      says_same outside.gateways lane.gateway next.gateway is.1

  front_says : (today : ℕ) (works : List Work) (lane next : LaneValue D G) (step : Step)
      → HandlesFront outside.disks.fault_count outside.gateways today works lane next step → Says lane next
  front_says today [] lane next step is = same_gateway lane next is.1
  front_says today (Check account ∷ later) lane next step is =
      looks today (Check account) later (due_of (machine_of lane) today account) lane next step is
  front_says today (Ask account key ∷ later) lane next step is =
      orders today account key later lane next step is

  drains_says : (today count : ℕ) (lane next : LaneValue D G) (step : Step)
      → EndsAfter (Handles outside.disks.fault_count outside.gateways today) count lane next step
      → Says lane next
  drains_says today zero lane next step is = front_says today lane.outbox lane next step is.1
  drains_says today (suc count) lane next step (between, first, later) =
      says_then outside.gateways lane.gateway between.gateway next.gateway
      (front_says today lane.outbox lane between steps.Done first)
      (drains_says today count between next step later)

  looks_one : (today : ℕ) (one : Asked) (lane next : LaneValue D G) (step : Step)
      → LooksUp outside.disks.fault_count outside.gateways lane next today one step → Says lane next
  looks_one today one lane next step looks =
      says_noted outside.gateways lane.gateway next.gateway _ looks.heard.heard looks.heard.same

  looked : (today : ℕ) (one : Asked) (lane next : LaneValue D G) (step : Step)
      → Looked outside.disks.fault_count outside.gateways today lane next one step → Says lane next
  looked today one lane next (steps.Stopped count) is = same_gateway lane next is.2
  looked today one lane next steps.Idle is = looks_one today one lane next _ is
  looked today one lane next steps.Done is = looks_one today one lane next _ is
  looked today one lane next steps.DiskFault is = looks_one today one lane next _ is
  looked today one lane next (steps.Full commands size) is = looks_one today one lane next _ is
  looked today one lane next steps.NoMemory is = looks_one today one lane next _ is

  each_says : (today : ℕ) (payments : List Asked) (lane next : LaneValue D G) (step : Step)
      → EachDone (Looked outside.disks.fault_count outside.gateways today) lane next payments step
      → Says lane next
  each_says today [] lane next step is = same_gateway lane next is.1
  each_says today (one ∷ later) lane next step (inl is) = looked today one lane next step is.1
  each_says today (one ∷ later) lane next step (inr (between, first, more)) =
      says_then outside.gateways lane.gateway between.gateway next.gateway
      (looked today one lane between steps.Done first) (each_says today later between next step more)

  -- a lane that had stopped has, after each step
  abbrev HasStopped : LaneValue D G → Type 0
  HasStopped lane = lane.log.journal.stopped ≡ true

  writes_still : (lane next : LaneValue D G) (entry : Entry) (step : Step)
      → Writes outside.disks.fault_count lane next entry step → HasStopped lane → HasStopped next
  writes_still lane next entry steps.Idle is stopped = elim is [ ]
  writes_still lane next entry steps.Done is stopped = absurd (true≢false (sym stopped ∙ is.may.0))
  writes_still lane next entry steps.DiskFault is stopped = is.stopped
  writes_still lane next entry (steps.Stopped count) is stopped =
      ap (λ log. log.journal.stopped) is.2.0 ∙ stopped
  writes_still lane next entry (steps.Full commands size) is stopped =
      absurd (true≢false (sym stopped ∙ is.0))
  writes_still lane next entry steps.NoMemory is stopped = ap (λ log. log.journal.stopped) is.0 ∙ stopped

  same_still : (lane next : LaneValue D G) → next ≡ lane → HasStopped lane → HasStopped next
  same_still lane next same stopped = ap (λ (l : LaneValue D G). l.log.journal.stopped) same ∙ stopped

  looks_still : (today : ℕ) (front : Work) (later : List Work) (due : Option Command) (lane next : LaneValue D G)
      (step : Step) → Looks outside.disks.fault_count lane next today front later due step → HasStopped lane
      → HasStopped next
  looks_still today front later None lane next step is stopped =
      ap (λ (l : LaneValue D G). l.log.journal.stopped) is.1 ∙ stopped
  looks_still today front later (Some command) lane next step is stopped =
      writes_still _ next (today, command) step is.0 stopped

  orders_still : (today : ℕ) (account key : List ℕ) (later : List Work) (lane next : LaneValue D G) (step : Step)
      → Orders outside.disks.fault_count outside.gateways lane next today account key later step
      → HasStopped lane → HasStopped next
  orders_still today account key later lane next (steps.Stopped count) is stopped =
      same_still lane next is.2 stopped
  orders_still today account key later lane next steps.NoMemory is stopped = same_still lane next is stopped
  orders_still today account key later lane next steps.Idle is stopped =
      absurd (true≢false (sym stopped ∙ is.running))
  orders_still today account key later lane next steps.Done is stopped =
      absurd (true≢false (sym stopped ∙ is.running))
  orders_still today account key later lane next steps.DiskFault is stopped =
      absurd (true≢false (sym stopped ∙ is.running))
  orders_still today account key later lane next (steps.Full commands size) is stopped =
      absurd (true≢false (sym stopped ∙ is.running))

  front_still : (today : ℕ) (works : List Work) (lane next : LaneValue D G) (step : Step)
      → HandlesFront outside.disks.fault_count outside.gateways today works lane next step
      → HasStopped lane → HasStopped next
  front_still today [] lane next step is stopped = same_still lane next is.1 stopped
  front_still today (Check account ∷ later) lane next step is stopped = looks_still today (Check account) later
      (due_of (machine_of lane) today account) lane next step is stopped
  front_still today (Ask account key ∷ later) lane next step is stopped =
      orders_still today account key later lane next step is stopped

  drains_still : (today count : ℕ) (lane next : LaneValue D G) (step : Step)
      → EndsAfter (Handles outside.disks.fault_count outside.gateways today) count lane next step
      → HasStopped lane → HasStopped next
  drains_still today zero lane next step is stopped = front_still today lane.outbox lane next step is.1 stopped
  drains_still today (suc count) lane next step (between, first, later) stopped =
      drains_still today count between next step later
      (front_still today lane.outbox lane between steps.Done first stopped)

  looked_still : (today : ℕ) (one : Asked) (lane next : LaneValue D G) (step : Step)
      → Looked outside.disks.fault_count outside.gateways today lane next one step
      → HasStopped lane → HasStopped next
  looked_still today one lane next (steps.Stopped count) is stopped = same_still lane next is.2 stopped
  looked_still today one lane next steps.Idle is stopped = absurd (true≢false (sym stopped ∙ is.running))
  looked_still today one lane next steps.Done is stopped = absurd (true≢false (sym stopped ∙ is.running))
  looked_still today one lane next steps.DiskFault is stopped = absurd (true≢false (sym stopped ∙ is.running))
  looked_still today one lane next (steps.Full commands size) is stopped =
      absurd (true≢false (sym stopped ∙ is.running))
  looked_still today one lane next steps.NoMemory is stopped = absurd (true≢false (sym stopped ∙ is.running))

  each_still : (today : ℕ) (payments : List Asked) (lane next : LaneValue D G) (step : Step)
      → EachDone (Looked outside.disks.fault_count outside.gateways today) lane next payments step
      → HasStopped lane → HasStopped next
  each_still today [] lane next step is stopped = same_still lane next is.1 stopped
  each_still today (one ∷ later) lane next step (inl is) stopped = looked_still today one lane next step is.1 stopped
  each_still today (one ∷ later) lane next step (inr (between, first, more)) stopped =
      each_still today later between next step more (looked_still today one lane between steps.Done first stopped)

  -- so it goes on while it is drained, and while it looks payments up
  pub drains_later : (today count : ℕ) (lane next : LaneValue D G) (step : Step)
      → EndsAfter (Handles outside.disks.fault_count outside.gateways today) count lane next step
      → GoesLater outside.gateways lane next
  drains_later today count lane next step drains = record {
    still = drains_still today count lane next step drains;
    says = drains_says today count lane next step drains;
  }

  pub each_later : (today : ℕ) (payments : List Asked) (lane next : LaneValue D G) (step : Step)
      → EachDone (Looked outside.disks.fault_count outside.gateways today) lane next payments step
      → GoesLater outside.gateways lane next
  each_later today payments lane next step each = record {
    still = each_still today payments lane next step each;
    says = each_says today payments lane next step each;
  }

  pub later_then : (one two three : LaneValue D G) → GoesLater outside.gateways one two
      → GoesLater outside.gateways two three → GoesLater outside.gateways one three
  later_then one two three first second = record {
    still = λ stopped. second.still (first.still stopped);
    says = says_then outside.gateways one.gateway two.gateway three.gateway first.says second.says;
  }

  still_of : (lane next : LaneValue D G) → GoesOn lane next → HasStopped lane → HasStopped next
  still_of lane next goes stopped = ap (λ log. log.journal.stopped) (goes.well.still stopped) ∙ stopped

  over : IsOverLane outside (λ lane next. GoesLater outside.gateways lane next)
  over = record {
    stays = λ lane. record { still = λ stopped. stopped; says = same_gateway lane lane refl };
    goes_then = later_then;
    performs = λ today command reply lane next does. record {
      still = still_of lane next does.1;
      says = says_same outside.gateways lane.gateway next.gateway does.0.gateway;
    };
    looks_up = λ today step lane next does. elim does.0.looked [
      | inl each ↦ each_later today (to_look_up lane) lane next step each
      | inr none ↦ record {
        still = same_still lane next none.1;
        says = same_gateway lane next none.1;
      }
    ];
    drains = λ today step lane next does. drains_later today does.0.0 lane next step does.0.2;
  }

  -- Lanes go on, each as it is told; and if one had no room, that is told later too.
  pub record GoLater (old new : LanesValue D G C) : Type 0 where
    pub lanes : ContinueAll (λ lane next. GoesLater outside.gateways lane next) old.lanes new.lanes
    pub full : old.full ≡ true → new.full ≡ true

  up : (before told after : Bool) → after ≡ (before || told) → before ≡ true → after ≡ true
  up true told after is before = is
  up false told after is before = absurd (cc)

  lanes_over : IsOverSteps outside (λ old new.
      ContinueAll (λ lane next. GoesLater outside.gateways lane next) old.lanes new.lanes)
  lanes_over = over_lanes outside (λ lane next. GoesLater outside.gateways lane next) over

  pub later_over : IsOverSteps outside GoLater
  later_over = record {
    none = λ lanes. record { lanes = lanes_over.none lanes; full = λ full. full };
    both = λ old middle new first second. record {
      lanes = lanes_over.both old middle new first.lanes second.lanes;
      full = λ full. second.full (first.full full);
    };
    performs = λ today command place old new reply performs. record {
      lanes = lanes_over.performs today command place old new reply performs;
      full = up old.full _ new.full performs.2;
    };
    looks_up = λ today place old new step looks. record {
      lanes = lanes_over.looks_up today place old new step looks;
      full = up old.full _ new.full looks.2;
    };
    drains = λ today place old new step drains. record {
      lanes = lanes_over.drains today place old new step drains;
      full = up old.full _ new.full drains.2;
    };
  }
