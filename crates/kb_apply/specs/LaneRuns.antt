-- Lanes that answer lines: what each line does to them, and what is said.
use Rattle.std.specs.Prelude.{ℕ, zero, suc, ◌+◌, ◌-◌, ◌≡◌, ◌⊎◌, ◌||◌, Bool, true, false, List, length}
use Rattle.std.specs.Prelude.{slice_get, Option, Some, Result, Ok, Err, ⊤}
use Rattle.kb_base.specs.Machine.{Machine}
use Rattle.kb_disk.specs.Told.{DiskTold}
use Rattle.kb_gateway.specs.Told.{GatewayTold}
use Rattle.kb_codec.specs.declared.command.Command.{Command}
use Rattle.kb_book.specs.declared.refusal.Refusal.{Refusal}
use Rattle.kb_book.specs.declared.query.Query.{Query}
use Rattle.kb_book.specs.declared.views.View.{View}
use Rattle.kb_book.specs.declared.reply.LaneReply.{LaneReply}
use Rattle.kb_book.specs.declared.step.Step.{Step}
use Rattle.kb_book.specs.declared.step.Step.TheVariants as steps
use Rattle.kb_codec.specs.Senders.{is_text, account_of}
use Rattle.kb_lane.specs.Lanes.{LaneValue, machine_of}
use Rattle.kb_lane.specs.Replies.{Performs}
use Rattle.kb_lane.specs.LookingUp.{LooksAllUp}
use Rattle.kb_lane.specs.Reading.{asked_account, view_of}
use Rattle.kb_lane.specs.Drains.{Drains}
use Rattle.kb_ports.specs.NamedDays.{IsDayOf}
use Rattle.kb_apply.specs.Addressed.{account_on, first_lane, lanes_on}
use Rattle.kb_desk.specs.Continuing.{Continues}
use Rattle.kb_desk.specs.Places.{GoesAt, is_full_reply, is_full_step, is_taken_text}
use Rattle.kb_desk.specs.Lanes.{lane_of}
use Rattle.kb_json.specs.declared.fault.RequestFault.{RequestFault}
use Rattle.kb_json.specs.declared.fault.RequestFault.TheVariants as faults
use Rattle.kb_json.specs.declared.request.Request.{Request}
use Rattle.kb_json.specs.declared.request.What.{What}
use Rattle.kb_json.specs.declared.request.What.TheVariants as whats
use Rattle.kb_json.specs.Asked.{IsAsked}
use Rattle.kb_json.specs.Requests.{ask}
use Rattle.kb_json.specs.declared.said.Said.{Said}
use Rattle.kb_json.specs.declared.said.Said.TheVariants as says
use Rattle.kb_json.specs.Telling.{Says, IsPartOf}

-- What is told of disks, gateways and a clock; of the clock, the day that it gives, if it is always the same.
pub record Outside (D G C : Type 0) : Type 1 where
  pub disks : DiskTold D
  pub gateways : GatewayTold G
  pub day : C → Option ℕ

abbrev pub outside_of : {D G C : Type 0} → DiskTold D → GatewayTold G → (C → Option ℕ) → Outside D G C
outside_of disks gateways day = record { disks = disks; gateways = gateways; day = day }

-- Lanes, by their numbers; the clock; and whether a lane had no room for a command.
pub record LanesValue (D G C : Type 0) : Type 0 where
  pub lanes : List (LaneValue D G)
  pub clock : C
  pub full : Bool

-- The lane at a place performs a command, and replies so.
abbrev pub PerformsAt : {D G C : Type 0} → Outside D G C → ℕ → Command → ℕ → LanesValue D G C
    → LanesValue D G C
    → LaneReply → Type 0
PerformsAt outside today command place old new reply =
    GoesAt (λ lane next. Performs outside.disks.fault_count lane next today command reply
    × Continues outside.disks.honest outside.disks.moment outside.disks.left_since outside.disks.fault_count
    lane next)
    place old.lanes new.lanes
    × (new.clock ≡ old.clock) × (new.full ≡ (old.full || is_full_reply reply))

-- It looks its open payments up, up to such a step.
abbrev pub LooksUpAt : {D G C : Type 0} → Outside D G C → ℕ → ℕ → LanesValue D G C → LanesValue D G C → Step
    → Type 0
LooksUpAt outside today place old new step =
    GoesAt (λ lane next. LooksAllUp outside.disks.fault_count outside.gateways today
    lane next step
    × Continues outside.disks.honest outside.disks.moment outside.disks.left_since outside.disks.fault_count
    lane next)
    place old.lanes new.lanes
    × (new.clock ≡ old.clock) × (new.full ≡ (old.full || is_full_step step))

-- Its outbox is drained, up to such a step.
abbrev pub DrainsAt : {D G C : Type 0} → Outside D G C → ℕ → ℕ → LanesValue D G C → LanesValue D G C → Step
    → Type 0
DrainsAt outside today place old new step =
    GoesAt (λ lane next. Drains outside.disks.fault_count outside.gateways today
    lane next step
    × Continues outside.disks.honest outside.disks.moment outside.disks.left_since outside.disks.fault_count
    lane next)
    place old.lanes new.lanes
    × (new.clock ≡ old.clock) × (new.full ≡ (old.full || is_full_step step))

-- A text goes to the lane at a place and to so many behind it, in order, up to the first that doesn't take
-- it, whose reply is given.
abbrev pub TextFrom : {D G C : Type 0} → Outside D G C → ℕ → Command → ℕ → ℕ → LanesValue D G C
    → LanesValue D G C → LaneReply → Type 0
TextFrom outside today command place zero old new reply = PerformsAt outside today command place old new reply
TextFrom outside today command place (suc more) old new reply =
    (PerformsAt outside today command place old new reply × (is_taken_text reply ≡ false))
    ⊎ ((between : LanesValue _ _ _) × (first : LaneReply)
    × PerformsAt outside today command place old between first
    × (is_taken_text first ≡ true) × TextFrom outside today command (place + 1) more between new reply)

-- So many lanes from a place on look their open payments up, in order, up to the first that isn't done with
-- it.
abbrev pub LookUpFrom : {D G C : Type 0} → Outside D G C → ℕ → ℕ → ℕ → LanesValue D G C → LanesValue D G C
    → Step
    → Type 0
LookUpFrom outside today place zero old new step = (new ≡ old) × (step ≡ steps.Done)
LookUpFrom outside today place (suc more) old new step =
    (LooksUpAt outside today place old new step × (step ≡ steps.Done → ⊥))
    ⊎ ((between : LanesValue _ _ _) × LooksUpAt outside today place old between steps.Done
    × LookUpFrom outside today (place + 1) more between new step)

-- So many lanes from a place on are drained, in order, each with memory enough.
abbrev pub DrainFrom : {D G C : Type 0} → Outside D G C → ℕ → ℕ → ℕ → LanesValue D G C → LanesValue D G C
    → Type 0
DrainFrom outside today place zero old new = new ≡ old
DrainFrom outside today place (suc more) old new = (between : LanesValue _ _ _) × (step : Step)
    × DrainsAt outside today place old between step × (step ≡ steps.NoMemory → ⊥)
    × DrainFrom outside today (place + 1) more between new

-- Some of them are, up to one that lacked memory or none.
abbrev pub DrainPart : {D G C : Type 0} → Outside D G C → ℕ → ℕ → ℕ → LanesValue D G C → LanesValue D G C
    → Type 0
DrainPart outside today place zero old new = new ≡ old
DrainPart outside today place (suc more) old new = (new ≡ old)
    ⊎ ((between : LanesValue _ _ _) × (step : Step) × DrainsAt outside today place old between step
    × DrainPart outside today (place + 1) more between new)

-- what is said to a query: the view, or its refusal, unless memory ran out
abbrev pub IsShown : Result View Refusal → Said → Type 0
IsShown (Ok view) (says.View shown) = shown ≡ view
IsShown (Err refusal) (says.Refused refused) = refused ≡ refusal
IsShown told (says.Fault faults.NoMemory) = ⊤
IsShown told other = ⊥

-- A query is answered by the lane at a place, which stays as it is.
abbrev pub IsShownAt : {D G : Type 0} → ℕ → Query → ℕ → List (LaneValue D G) → Said → Type 0
IsShownAt today query place lanes spoken = (lane : LaneValue _ _) × (slice_get lanes place ≡ Some lane)
    × IsShown (view_of (machine_of lane) today query) spoken

-- A command is performed by the lane of its account; a text goes to all lanes.
abbrev pub ServesCommand : {D G C : Type 0} → Outside D G C → ℕ → Command → Bool → LanesValue D G C
    → LanesValue D G C → LaneReply → Type 0
ServesCommand outside today command true old new reply =
    TextFrom outside today command 0 (length old.lanes - 1) old new reply
ServesCommand outside today command false old new reply =
    PerformsAt outside today command (lane_of (account_of command) (length old.lanes)) old new reply

-- What a request does before anything is drained, and what is said to it.
abbrev pub Serves : {D G C : Type 0} → Outside D G C → ℕ → What → LanesValue D G C → LanesValue D G C → Said
    → Type 0
Serves outside today (whats.Command command) old new spoken = (reply : LaneReply)
    × (spoken ≡ says.Reply reply)
    × ServesCommand outside today command (is_text command) old new reply
Serves outside today (whats.Query query) old new spoken =
    IsShownAt today query (lane_of (asked_account query) (length old.lanes)) old.lanes spoken × (new ≡ old)
Serves outside today whats.Janitor old new spoken = (step : Step) × (spoken ≡ says.Janitor step)
    × LookUpFrom outside today 0 (length old.lanes) old new step

-- What a line does, once it is read: a fault is said, and a request is served on its day and said, and then
-- the outboxes of the lanes that it is on are drained.
abbrev pub Answers : {D G C : Type 0} → Outside D G C → LanesValue D G C → Result Request RequestFault
    → List ℕ
    → LanesValue D G C → Type 0
Answers outside old (Err fault) text new = Says (says.Fault fault) text × (new ≡ old)
Answers outside old (Ok request) text new = (today : ℕ) × (served : LanesValue _ _ _) × (spoken : Said)
    × IsDayOf outside.day old.clock request.today today × Serves outside today request.what old served spoken
    × Says spoken text
    × DrainFrom outside today (first_lane (length old.lanes) (account_on request.what))
    (lanes_on (length old.lanes) (account_on request.what)) served new

-- What a line may do for which memory ran out: a part of what is said, and some of what is drained.
abbrev pub AnswersPart : {D G C : Type 0} → Outside D G C → LanesValue D G C → Result Request RequestFault
    → List ℕ
    → LanesValue D G C → Type 0
AnswersPart outside old (Err fault) part new = ((text : List ℕ) × Says (says.Fault fault) text
    × IsPartOf part text)
    × (new ≡ old)
AnswersPart outside old (Ok request) part new = (today : ℕ) × (served : LanesValue _ _ _) × (spoken : Said)
    × IsDayOf outside.day old.clock request.today today × Serves outside today request.what old served spoken
    × ((text : List ℕ) × Says spoken text × IsPartOf part text)
    × DrainPart outside today (first_lane (length old.lanes) (account_on request.what))
    (lanes_on (length old.lanes) (account_on request.what)) served new

-- The machine of lanes: it answers a line by what is read of it.
abbrev pub lanes_machine : {D G C : Type 0} → Outside D G C → Machine (LanesValue D G C) (List ℕ)
lanes_machine outside = record {
  step = λ old line text new. (read : Result Request RequestFault) × IsAsked read (ask true line)
      × Answers outside old read text new;
  cut = λ old line part new. (read : Result Request RequestFault) × IsAsked read (ask true line)
      × AnswersPart outside old read part new;
}
