-- A lane that had no room for a command has none at the end of a run.
use Rattle.std.specs.Prelude.{◌||◌}
use Rattle.std.proofs.Common.{◌≡◌, ◌≤◌, ℕ, zero, suc, ◌+◌, ◌⊎◌, inl, inr, Bool, true, false, List, [], ◌∷◌, ◌++◌}
use Rattle.std.proofs.Common.{length, Option, None, Some, Result, arith, refl, sym, ap, subst, ◌∙◌, true≢false}
use Rattle.std.proofs.Common.{append_assoc, append-nil, length-append, set}
use Rattle.std.specs.List.{slice_get}
use Rattle.kb_book.specs.declared.reply.LaneReply.{LaneReply}
use Rattle.kb_book.specs.declared.reply.LaneReply.TheVariants as replies
use Rattle.kb_book.specs.declared.step.Step.{Step}
use Rattle.kb_book.specs.declared.step.Step.TheVariants as steps
use Rattle.kb_codec.specs.Entries.{Entry, History, payload}
use Rattle.kb_codec.specs.declared.command.Command.{Command}
use Rattle.kb_gateway.specs.declared.order.Asked.{Asked}
use Rattle.kb_lane.specs.declared.work.Work.{Work}
use Rattle.kb_lane.specs.declared.work.Work.TheVariants.{Ask, Check}
use Rattle.kb_lane.specs.Draining.{due_of, Accepts, Looks, Orders, Writes}
use Rattle.kb_lane.specs.Drains.{EndsAfter, Handles, HandlesFront}
use Rattle.kb_lane.specs.Lanes.{LaneValue, machine_of}
use Rattle.kb_lane.specs.Logs.{LogValue, HasNoRoom, written_size}
use Rattle.kb_lane.specs.LookingUp.{EachDone, Looked, LooksAllUp, to_look_up}
use Rattle.kb_lane.specs.Replies.{Performs}
use Rattle.kb_lane.proofs.Rooms.{measured_more}
use Rattle.kb_runs.specs.Reading.{Known}
use Rattle.kb_runs.specs.declared.stop.Stop.{Stop}
use Rattle.kb_desk.specs.Continuing.{Continues, ContinueAll}
use Rattle.kb_desk.specs.Places.{GoesAt, is_full_reply, is_full_step}
use Rattle.kb_apply.specs.Applying.{Applies}
use Rattle.kb_apply.specs.LaneRuns.{Outside, LanesValue, PerformsAt, LooksUpAt, DrainsAt, lanes_machine}
use Rattle.kb_apply.proofs.Continuing.{steps_continue}
use Rattle.kb_apply.proofs.OverRuns.{IsOverSteps, over_run}

-- some lane has no room for a command of the most bytes
abbrev SomeNoRoom : {D G : Type 0} → List (LaneValue D G) → Type 0
SomeNoRoom lanes = (place : ℕ) × (lane : LaneValue _ _) × (slice_get lanes place ≡ Some lane)
    × HasNoRoom lane.log 65536

-- a longer history takes no fewer bytes
grown : {D : Type 0} (log : LogValue D) (more : History)
    → written_size log ≤ written_size (record log { history = log.history ++ more })
grown log [] = subst (λ (all : History). written_size log ≤ written_size (record log { history = all }))
    (sym (append-nil log.history)) (omega arith)
grown log (entry ∷ more) =
    let one : written_size log + length (payload entry) + 5
    ≡ written_size (record log { history = log.history ++ entry ∷ [] })
    = measured_more log.journal.lanes log.journal.lane _ log.history entry (payload entry) refl refl in
    let later = grown (record log { history = log.history ++ entry ∷ [] }) more in
    subst (λ (all : History). written_size log ≤ written_size (record log { history = all }))
    (append_assoc log.history (entry ∷ []) more) (omega (arith, one, later))

-- a log that goes on has no room where it had none before
no_more_room : {D : Type 0} (old new : LogValue D) (more : History) → new.history ≡ old.history ++ more
    → new.journal.lanes ≡ old.journal.lanes → new.journal.lane ≡ old.journal.lane → (size : ℕ)
    → size ≤ 65536 → HasNoRoom old size → HasNoRoom new 65536
no_more_room old new more further lanes lane size sized (inl many) =
    inl (omega (arith, many, ap length further, length-append old.history more))
no_more_room old new more further lanes lane size sized (inr long) = inr (omega (arith, sized, long, longer))
  where
    longer : written_size old ≤ written_size new
    longer =
        subst (λ (k : ℕ). written_size old ≤ written_size (record old {
          journal = record old.journal { lanes = new.journal.lanes; lane = k };
          history = new.history;
        })) (sym lane)
        (subst (λ (l : ℕ). written_size old ≤ written_size (record old {
          journal = record old.journal { lanes = l };
          history = new.history;
        })) (sym lanes)
        (subst (λ (all : History). written_size old ≤ written_size (record old { history = all }))
        (sym further) (grown old more)))

-- what is done to one lane is done to the next of it
done_at : {L : Type 0} (Does : L → L → Type 0) (place : ℕ) (old new : List L) → GoesAt Does place old new
    → (lane : L) × (next : L) × (slice_get new place ≡ Some next) × Does lane next
done_at Does place old new (lane, next, is, set_to, does) =
    (lane, next, ap (λ items. slice_get items place) set_to ∙ there old place is, does)
  where
    there : (items : List _) (place : ℕ) → slice_get items place ≡ Some lane
        → slice_get (set items place next) place ≡ Some next
    there [] place is = absurd (cc)
    there (first ∷ later) zero is = refl
    there (first ∷ later) (suc place) is = there later place is

-- the flag was up, or what was told puts it up
flag_of : (before told after : Bool) → after ≡ (before || told) → after ≡ true
    → (before ≡ true) ⊎ (told ≡ true)
flag_of true told after is up = inl refl
flag_of false told after is up = inr (sym is ∙ up)

module _ {D G C : Type 0} (outside : Outside D G C) where
  -- a step that has no room leaves a log that has none
  writes : (lane next : LaneValue D G) (entry : Entry) (step : Step)
      → Writes outside.disks.fault_count lane next entry step → is_full_step step ≡ true
      → HasNoRoom next.log 65536
  writes lane next entry (steps.Full commands size) is full =
      subst (λ log. HasNoRoom log 65536) (sym is.4.0)
      (no_more_room lane.log lane.log [] (sym (append-nil lane.log.history)) refl refl _ is.1.0 is.1.1)
  writes lane next entry steps.Idle is full = absurd (cc)
  writes lane next entry steps.Done is full = absurd (cc)
  writes lane next entry steps.DiskFault is full = absurd (cc)
  writes lane next entry (steps.Stopped count) is full = absurd (cc)
  writes lane next entry steps.NoMemory is full = absurd (cc)

  accepts : (today : ℕ) (settled : Option Command) (lane next : LaneValue D G) (step : Step)
      → Accepts outside.disks.fault_count lane next today settled step → is_full_step step ≡ true
      → HasNoRoom next.log 65536
  accepts today None lane next step is full = absurd (done_is_not (is.0) full)
    where
      done_is_not : step ≡ steps.Done → is_full_step step ≡ true → ⊥
      done_is_not same full = cc
  accepts today (Some command) lane next step is full = writes lane next (today, command) step is full

  looks : (today : ℕ) (front : Work) (later : List Work) (due : Option Command) (lane next : LaneValue D G)
      (step : Step) → Looks outside.disks.fault_count lane next today front later due step
      → is_full_step step ≡ true → HasNoRoom next.log 65536
  looks today front later None lane next step is full = accepts today None lane next step (is.0, cc) full
  looks today front later (Some command) lane next step is full = writes _ next (today, command) step is.0 full

  orders : (today : ℕ) (account key : List ℕ) (later : List Work) (lane next : LaneValue D G) (step : Step)
      → Orders outside.disks.fault_count outside.gateways lane next today account key later step
      → is_full_step step ≡ true → HasNoRoom next.log 65536
  orders today account key later lane next (steps.Full commands size) is full =
      accepts today _ _ next (steps.Full commands size) is.settled full
  orders today account key later lane next steps.Idle is full = absurd (cc)
  orders today account key later lane next steps.Done is full = absurd (cc)
  orders today account key later lane next steps.DiskFault is full = absurd (cc)
  orders today account key later lane next (steps.Stopped count) is full = absurd (cc)
  orders today account key later lane next steps.NoMemory is full = absurd (cc)

  front : (today : ℕ) (works : List Work) (lane next : LaneValue D G) (step : Step)
      → HandlesFront outside.disks.fault_count outside.gateways today works lane next step
      → is_full_step step ≡ true → HasNoRoom next.log 65536
  front today [] lane next step is full = absurd (idle_is_not is.0 full)
    where
      idle_is_not : step ≡ steps.Idle → is_full_step step ≡ true → ⊥
      idle_is_not same full = cc
  front today (Check account ∷ later) lane next step is full =
      looks today (Check account) later (due_of (machine_of lane) today account) lane next step is full
  front today (Ask account key ∷ later) lane next step is full =
      orders today account key later lane next step is full

  drains : (today count : ℕ) (lane next : LaneValue D G) (step : Step)
      → EndsAfter (Handles outside.disks.fault_count outside.gateways today) count lane next step
      → is_full_step step ≡ true → HasNoRoom next.log 65536
  drains today zero lane next step is full = front today lane.outbox lane next step is.1 full
  drains today (suc count) lane next step (between, first, later) full =
      drains today count between next step later full

  looked : (today : ℕ) (one : Asked) (lane next : LaneValue D G) (step : Step)
      → Looked outside.disks.fault_count outside.gateways today lane next one step
      → is_full_step step ≡ true → HasNoRoom next.log 65536
  looked today one lane next (steps.Full commands size) is full =
      accepts today _ lane next (steps.Full commands size) is.settled full
  looked today one lane next steps.Idle is full = absurd (cc)
  looked today one lane next steps.Done is full = absurd (cc)
  looked today one lane next steps.DiskFault is full = absurd (cc)
  looked today one lane next (steps.Stopped count) is full = absurd (cc)
  looked today one lane next steps.NoMemory is full = absurd (cc)

  looks_up : (today : ℕ) (payments : List Asked) (lane next : LaneValue D G) (step : Step)
      → EachDone (Looked outside.disks.fault_count outside.gateways today) lane next payments step
      → is_full_step step ≡ true → HasNoRoom next.log 65536
  looks_up today [] lane next step is full = accepts today None lane next step (is.0, cc) full
  looks_up today (one ∷ later) lane next step (inl is) full = looked today one lane next step is.1 full
  looks_up today (one ∷ later) lane next step (inr (between, first, more)) full =
      looks_up today later between next step more full

  abbrev GoesOn : LaneValue D G → LaneValue D G → Type 0
  GoesOn lane next = Continues outside.disks.honest outside.disks.moment outside.disks.left_since
      outside.disks.fault_count lane next

  -- lanes continue, and if the flag is up that one had no room, it was up before or one has none
  record FillsUp (old new : LanesValue D G C) : Type 0 where
    pub continue : ContinueAll GoesOn old.lanes new.lanes
    pub flagged : new.full ≡ true → (old.full ≡ true) ⊎ SomeNoRoom new.lanes

  over_two : (old middle new : LanesValue D G C) → FillsUp old middle → FillsUp middle new → FillsUp old new
  over_two old middle new first second = record {
    continue = (steps_continue outside).both old middle new first.continue second.continue;
    flagged = λ up. by_second (second.flagged up);
  }
    where
      by_first : (old.full ≡ true) ⊎ SomeNoRoom middle.lanes → (old.full ≡ true) ⊎ SomeNoRoom new.lanes
      by_first (inl before) = inl before
      by_first (inr (place, lane, there, none)) =
          let next = second.continue.each place lane there in
          let goes = next.2 in
          inr (
            place,
            next.0,
            next.1,
            no_more_room lane.log (next.0).log goes.well.further.0
                goes.well.further.1 goes.itself.lanes goes.itself.lane 65536 (omega arith) none,
          )

      by_second : (middle.full ≡ true) ⊎ SomeNoRoom new.lanes → (old.full ≡ true) ⊎ SomeNoRoom new.lanes
      by_second (inl before) = by_first (first.flagged before)
      by_second (inr some) = inr some

  -- one lane went on, and what it told is that it had no room
  one_full : (Does : LaneValue D G → LaneValue D G → Type 0) (place : ℕ) (old new : LanesValue D G C)
      (told : Bool) → GoesAt Does place old.lanes new.lanes
      → ((lane next : LaneValue D G) → Does lane next → told ≡ true → HasNoRoom next.log 65536)
      → new.full ≡ (old.full || told) → new.full ≡ true → (old.full ≡ true) ⊎ SomeNoRoom new.lanes
  one_full Does place old new told goes has_none is up = by_flag (flag_of old.full told new.full is up)
    where
      by_flag : (old.full ≡ true) ⊎ (told ≡ true) → (old.full ≡ true) ⊎ SomeNoRoom new.lanes
      by_flag (inl before) = inl before
      by_flag (inr full) =
          let done = done_at Does place old.lanes new.lanes goes in
          inr (place, done.1, done.2, has_none done.0 done.1 done.3 full)

  performed : (today : ℕ) (command : Command) (place : ℕ) (old new : LanesValue D G C) (reply : LaneReply)
      → PerformsAt outside today command place old new reply → FillsUp old new
  performed today command place old new reply performs = record {
    continue = (steps_continue outside).performs today command place old new reply performs;
    flagged = one_full _ place old new (is_full_reply reply) performs.0 (by_reply reply) performs.2;
  }
    where
      by_reply : (reply : LaneReply) (lane next : LaneValue D G)
          → Performs outside.disks.fault_count lane next today command reply × GoesOn lane next
          → is_full_reply reply ≡ true → HasNoRoom next.log 65536
      by_reply (replies.Full commands size) lane next does full =
          let told = does.0.full commands size refl in
          let goes = does.1 in
          no_more_room lane.log next.log goes.well.further.0 goes.well.further.1 goes.itself.lanes
          goes.itself.lane _ told.1.0 told.1.1
      by_reply replies.DiskFault lane next does full = absurd (cc)
      by_reply (replies.Stopped count) lane next does full = absurd (cc)
      by_reply replies.NoMemory lane next does full = absurd (cc)
      by_reply (replies.Accepted answer) lane next does full = absurd (cc)
      by_reply (replies.Version number) lane next does full = absurd (cc)
      by_reply (replies.States number) lane next does full = absurd (cc)
      by_reply (replies.Refused refusal) lane next does full = absurd (cc)

  looked_up : (today place : ℕ) (old new : LanesValue D G C) (step : Step)
      → LooksUpAt outside today place old new step → FillsUp old new
  looked_up today place old new step does = record {
    continue = (steps_continue outside).looks_up today place old new step does;
    flagged = one_full _ place old new (is_full_step step) does.0 by_step does.2;
  }
    where
      by_step : (lane next : LaneValue D G)
          → LooksAllUp outside.disks.fault_count outside.gateways today lane next step × GoesOn lane next
          → is_full_step step ≡ true → HasNoRoom next.log 65536
      by_step lane next looks full = by_looked looks.0.looked
        where
          by_looked : EachDone (Looked outside.disks.fault_count outside.gateways today) lane next
              (to_look_up lane) step ⊎ ((step ≡ steps.NoMemory) × (next ≡ lane)) → HasNoRoom next.log 65536
          by_looked (inl each) = looks_up today (to_look_up lane) lane next step each full
          by_looked (inr none) = absurd (memory_is_not step none.0 full)
            where
              memory_is_not : (step : Step) → step ≡ steps.NoMemory → is_full_step step ≡ true → ⊥
              memory_is_not step same full = cc

  drained : (today place : ℕ) (old new : LanesValue D G C) (step : Step)
      → DrainsAt outside today place old new step → FillsUp old new
  drained today place old new step does = record {
    continue = (steps_continue outside).drains today place old new step does;
    flagged = one_full _ place old new (is_full_step step) does.0
        (λ lane next drains_one full. drains today drains_one.0.0 lane next step drains_one.0.2 full) does.2;
  }

  over : IsOverSteps outside FillsUp
  over = record {
    none = λ lanes. record { continue = (steps_continue outside).none lanes; flagged = λ up. inl up };
    both = over_two;
    performs = performed;
    looks_up = looked_up;
    drains = drained;
  }

  -- where the flag is up at the end of a run that began without it, a lane has no room for a command
  pub run_fills : (first last : LanesValue D G C) (left left_after written written_after : Known)
      (outcome : Result (Unit {0}) Stop)
      → Applies (lanes_machine outside) first left left_after written written_after last outcome
      → first.full ≡ false → last.full ≡ true
      → (place : ℕ) × (lane : LaneValue D G) × (slice_get last.lanes place ≡ Some lane)
      × HasNoRoom lane.log 65536
  run_fills first last left left_after written written_after outcome ran down up =
      by_flag ((over_run outside FillsUp over first last left left_after written written_after outcome
      ran).flagged up)
    where
      by_flag : (first.full ≡ true) ⊎ SomeNoRoom last.lanes → SomeNoRoom last.lanes
      by_flag (inl before) = absurd (true≢false (sym before ∙ down))
      by_flag (inr some) = some
