-- A lane whose outbox is handled to its end has done all that was to do, if its gateway takes each payment.
use Rattle.std.proofs.Common.{◌≡◌, ℕ, zero, suc, List, [], ◌∷◌, Option, None, Some, Result, Ok, refl}
use Rattle.std.proofs.Common.{sym, ap, subst, ◌∙◌}
use Rattle.kb_base.specs.declared.fault.Failed.{Failed}
use Rattle.kb_gateway.specs.declared.order.Asked.{Asked}
use Rattle.kb_gateway.specs.declared.told.Call.{Call}
use Rattle.kb_gateway.specs.declared.told.Told.{Told}
use Rattle.kb_gateway.specs.declared.told.Told.TheVariants.{Processed}
use Rattle.kb_codec.specs.declared.command.Command.{Command}
use Rattle.kb_lane.specs.Logs.{LogValue}
use Rattle.kb_machine.specs.Histories.{replay}
use Rattle.kb_book.specs.declared.step.Step.TheVariants as steps
use Rattle.kb_lane.specs.declared.work.Work.{Work}
use Rattle.kb_lane.specs.declared.work.Work.TheVariants.{Ask, Check}
use Rattle.kb_lane.specs.Lanes.{LaneValue, machine_of}
use Rattle.kb_lane.specs.Orders.{settled_by}
use Rattle.kb_lane.specs.Draining.{due_of, with_outbox, Accepts, Looks}
use Rattle.kb_lane.specs.Drains.{Drains, EndsAfter, Handles, HandlesFront}
use Rattle.kb_machine.proofs.Replays.{replay_more}
use Rattle.kb_make.specs.Makes.{IsDoneWith, accepted_if, done_times, first_done}
use Rattle.kb_make.specs.Private.Sayings.{paid_told}
use Rattle.kb_make.specs.Private.Sending.{busy_of}
use Rattle.kb_make.proofs.Busy.{busy_same}
use Rattle.kb_make.proofs.Paid.{notes_paid}

abbrev Past : Type 0
Past = List (Asked × Call)

module _ {D : Type 0} (fault_count : D → ℕ) (today : ℕ) where
  -- a lane that accepts a command, if there is one, is as busy as that leaves it
  accepts-done : (old new : LaneValue D Past) (later : List Work) (due : Option Command)
      → Accepts fault_count (with_outbox old later) new today due steps.Done
      → accepted_if today (record { machine = machine_of old; works = later }) due ≡ busy_of new
  accepts-done old new later None accepts =
      busy_same (machine_of old) (machine_of new) later new.outbox
      (ap (λ (log : LogValue D). replay log.history) (sym accepts.1.0)) (sym accepts.1.1)
  accepts-done old new later (Some command) takes =
      sym (busy_same (machine_of new) _ new.outbox _
      (ap replay takes.history ∙ replay_more old.log.history (today, command)) takes.outbox)

  looks-done : (old new : LaneValue D Past) (front : Work) (later : List Work) (due : Option Command)
      → Looks fault_count old new today front later due steps.Done
      → accepted_if today (record { machine = machine_of old; works = later }) due ≡ busy_of new
  looks-done old new front later None looks = sym (ap busy_of looks.1)
  looks-done old new front later (Some command) looks =
      accepts-done old new later (Some command) looks.0

  -- the first thing is done
  front-done : (old new : LaneValue D Past) (outbox : List Work)
      → HandlesFront fault_count paid_told today outbox old new steps.Done
      → first_done today (machine_of old) outbox ≡ busy_of new
  front-done old new [] handles = let impossible : steps.Done ≡ steps.Idle = handles.0 in cc
  front-done old new (Check account ∷ later) handles =
      looks-done old new (Check account) later (due_of (machine_of old) today account) handles
  front-done old new (Ask account key ∷ later) handles =
      let paid : handles.answer ≡ Ok Processed
      = notes_paid old.gateway new.gateway handles.order handles.answer handles.heard.heard in
      let P : Result Told Failed → Type 0 = λ answer.
      accepted_if today (record { machine = machine_of old; works = later }) (settled_by account key answer)
      ≡ busy_of new in
      subst P paid (accepts-done old new later (settled_by account key handles.answer) handles.settled)

  -- nothing was to do
  accepts-busy : (old new : LaneValue D Past) (due : Option Command)
      → Accepts fault_count old new today due steps.Idle → ⊥
  accepts-busy old new None accepts = let impossible : steps.Idle ≡ steps.Done = accepts.0 in cc
  accepts-busy old new (Some command) accepts = accepts

  looks-busy : (old new : LaneValue D Past) (front : Work) (later : List Work) (due : Option Command)
      → Looks fault_count old new today front later due steps.Idle → ⊥
  looks-busy old new front later None looks = let impossible : steps.Idle ≡ steps.Done = looks.0 in cc
  looks-busy old new front later (Some command) looks = looks.0

  front-idle : (old new : LaneValue D Past) (outbox : List Work)
      → HandlesFront fault_count paid_told today outbox old new steps.Idle
      → (outbox ≡ []) × (new ≡ old)
  front-idle old new [] handles = (refl, handles.1)
  front-idle old new (Check account ∷ later) handles =
      absurd (looks-busy old new (Check account) later (due_of (machine_of old) today account) handles)
  front-idle old new (Ask account key ∷ later) handles =
      absurd (accepts-busy (with_outbox old later) new (settled_by account key handles.answer)
      handles.settled)

  -- so many things are done, and nothing is left to do
  ends-done : (count : ℕ) (old new : LaneValue D Past)
      → EndsAfter (Handles fault_count paid_told today) count old new steps.Idle
      → (done_times count today (busy_of old) ≡ record { machine = machine_of new; works = [] })
      × (new.outbox ≡ [])
  ends-done zero old new ends =
      let idle = front-idle old new old.outbox ends.1 in (
        busy_same (machine_of old) (machine_of new) old.outbox [] (ap machine_of (sym idle.1)) idle.0,
        ap (λ (lane : LaneValue D Past). lane.outbox) idle.1 ∙ idle.0,
      )
  ends-done (suc count) old new ends =
      let rest = ends-done count ends.0 new ends.2 in
      (ap (done_times count today) (front-done old ends.0 old.outbox ends.1) ∙ rest.0, rest.1)

  pub drained_done : (old new : LaneValue D Past)
      → Drains fault_count paid_told today old new steps.Idle
      → IsDoneWith today (busy_of old) (machine_of new)
  drained_done old new drains = (drains.0, (ends-done drains.0 old new drains.2).0)

  pub drained_idle : (old new : LaneValue D Past)
      → Drains fault_count paid_told today old new steps.Idle → new.outbox ≡ []
  drained_idle old new drains = (ends-done drains.0 old new drains.2).1
