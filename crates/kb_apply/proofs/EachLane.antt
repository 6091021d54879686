-- What holds over each step of a lane holds of all lanes over a run.
use Rattle.std.proofs.Common.{◌≡◌, ℕ, zero, suc, List, [], ◌∷◌, length, set, Some, refl, ap, subst, ◌∙◌}
use Rattle.std.specs.List.{slice_get}
use Rattle.kb_codec.specs.declared.command.Command.{Command}
use Rattle.kb_book.specs.declared.reply.LaneReply.{LaneReply}
use Rattle.kb_book.specs.declared.step.Step.{Step}
use Rattle.kb_lane.specs.Drains.{Drains}
use Rattle.kb_lane.specs.Lanes.{LaneValue}
use Rattle.kb_lane.specs.LookingUp.{LooksAllUp}
use Rattle.kb_lane.specs.Replies.{Performs}
use Rattle.kb_desk.specs.Continuing.{Continues, ContinueAll}
use Rattle.kb_desk.specs.Places.{GoesAt}
use Rattle.kb_apply.specs.LaneRuns.{Outside}
use Rattle.kb_apply.proofs.OverRuns.{IsOverSteps}

-- a list is as long where one item of it was set
pub set_length : {A : Type 0} (items : List A) (place : ℕ) (next : A)
    → length (set items place next) ≡ length items
set_length [] place next = refl
set_length (first ∷ later) zero next = refl
set_length (first ∷ later) (suc place) next = ap suc (set_length later place next)

-- one of some goes on, and each other stays as it is
module _ {L : Type 0} (Goes : L → L → Type 0) (stays : (lane : L) → Goes lane lane) where
  set_each : (items : List L) (place : ℕ) (lane next : L) → slice_get items place ≡ Some lane → Goes lane next
      → (other : ℕ) (found : L) → slice_get items other ≡ Some found
      → (after : L) × (slice_get (set items place next) other ≡ Some after) × Goes found after
  set_each [] place lane next is goes other found there = absurd (cc)
  set_each (first ∷ later) zero lane next is goes zero found there =
      let same : lane ≡ found = cc in (next, refl, subst (λ it. Goes it next) same goes)
  set_each (first ∷ later) zero lane next is goes (suc other) found there = (found, there, stays found)
  set_each (first ∷ later) (suc place) lane next is goes zero found there = (found, there, stays found)
  set_each (first ∷ later) (suc place) lane next is goes (suc other) found there =
      set_each later place lane next is goes other found there

  continue_at : (Does : L → L → Type 0) → ((lane next : L) → Does lane next → Goes lane next) → (place : ℕ)
      (old new : List L) → GoesAt Does place old new → ContinueAll Goes old new
  continue_at Does goes place old new (lane, next, is, set_to, does) = record {
    count = ap length set_to ∙ set_length old place next;
    each = λ other found there.
        let done = set_each old place lane next is (goes lane next does) other found there in
        (done.0, ap (λ items. slice_get items other) set_to ∙ done.1, done.2);
  }

  continue_none : (lanes : List L) → ContinueAll Goes lanes lanes
  continue_none lanes = record { count = refl; each = λ place lane there. (lane, there, stays lane) }

  continue_then : ((one two three : L) → Goes one two → Goes two three → Goes one three)
      → (old middle new : List L) → ContinueAll Goes old middle → ContinueAll Goes middle new
      → ContinueAll Goes old new
  continue_then goes_then old middle new first second = record {
    count = second.count ∙ first.count;
    each = λ place lane there.
        let one = first.each place lane there in
        let two = second.each place one.0 one.1 in
        (two.0, two.1, goes_then lane one.0 two.0 one.2 two.2);
  }

-- A relation of a lane to a later one that holds of the same lane, goes on over two, and holds over each step.
pub record IsOverLane {D G C : Type 0} (outside : Outside D G C) (Goes : LaneValue D G → LaneValue D G → Type 0)
    : Type 0 where
  pub stays : (lane : LaneValue D G) → Goes lane lane
  pub goes_then : (one two three : LaneValue D G) → Goes one two → Goes two three → Goes one three
  pub performs : (today : ℕ) (command : Command) (reply : LaneReply) (lane next : LaneValue D G)
      → Performs outside.disks.fault_count lane next today command reply
      × Continues outside.disks.honest outside.disks.moment outside.disks.left_since outside.disks.fault_count
      lane next → Goes lane next
  pub looks_up : (today : ℕ) (step : Step) (lane next : LaneValue D G)
      → LooksAllUp outside.disks.fault_count outside.gateways today lane next step
      × Continues outside.disks.honest outside.disks.moment outside.disks.left_since outside.disks.fault_count
      lane next → Goes lane next
  pub drains : (today : ℕ) (step : Step) (lane next : LaneValue D G)
      → Drains outside.disks.fault_count outside.gateways today lane next step
      × Continues outside.disks.honest outside.disks.moment outside.disks.left_since outside.disks.fault_count
      lane next → Goes lane next

-- then it holds of all lanes over each step
pub over_lanes : {D G C : Type 0} (outside : Outside D G C) (Goes : LaneValue D G → LaneValue D G → Type 0)
    → IsOverLane outside Goes → IsOverSteps outside (λ old new. ContinueAll Goes old.lanes new.lanes)
over_lanes outside Goes over = record {
  none = λ lanes. continue_none Goes over.stays lanes.lanes;
  both = λ old middle new. continue_then Goes over.stays over.goes_then old.lanes middle.lanes new.lanes;
  performs = λ today command place old new reply performs.
      continue_at Goes over.stays _ (over.performs today command reply) place old.lanes new.lanes performs.0;
  looks_up = λ today place old new step looks.
      continue_at Goes over.stays _ (over.looks_up today step) place old.lanes new.lanes looks.0;
  drains = λ today place old new step drains.
      continue_at Goes over.stays _ (over.drains today step) place old.lanes new.lanes drains.0;
}
