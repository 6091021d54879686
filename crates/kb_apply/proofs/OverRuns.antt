-- What holds over a run, since it holds over each step.
use Rattle.std.proofs.Common.{◌≡◌, ℕ, zero, suc, ◌+◌, ◌-◌, ◌⊎◌, inl, inr, Bool, true, false, List, [], ◌∷◌, length}
use Rattle.std.proofs.Common.{Result, Ok, Err}
use Rattle.kb_base.specs.Machine.{IsRun}
use Rattle.kb_base.specs.Stream.{CutsFirst, IsGivenUp}
use Rattle.kb_codec.specs.declared.command.Command.{Command}
use Rattle.kb_codec.specs.Senders.{is_text}
use Rattle.kb_book.specs.declared.reply.LaneReply.{LaneReply}
use Rattle.kb_book.specs.declared.step.Step.{Step}
use Rattle.kb_book.specs.declared.step.Step.TheVariants as steps
use Rattle.kb_json.specs.declared.fault.RequestFault.{RequestFault}
use Rattle.kb_json.specs.declared.request.Request.{Request}
use Rattle.kb_json.specs.declared.request.What.{What}
use Rattle.kb_json.specs.declared.request.What.TheVariants as whats
use Rattle.kb_json.specs.declared.said.Said.{Said}
use Rattle.kb_runs.specs.declared.run_stop.RunStop.{RunStop}
use Rattle.kb_runs.specs.declared.run_stop.RunStop.TheVariants as runs
use Rattle.kb_runs.specs.declared.stop.Stop.{Stop}
use Rattle.kb_runs.specs.declared.stop.Stop.TheVariants as stops
use Rattle.kb_runs.specs.Reading.{IsStopped, Known}
use Rattle.kb_apply.specs.Applying.{Applies}
use Rattle.kb_apply.specs.LaneRuns.{Outside, LanesValue, PerformsAt, LooksUpAt, DrainsAt, TextFrom, LookUpFrom}
use Rattle.kb_apply.specs.LaneRuns.{DrainFrom, DrainPart, ServesCommand, Serves, Answers, AnswersPart}
use Rattle.kb_apply.specs.LaneRuns.{lanes_machine}

-- A relation of lanes to later ones that holds of the same lanes, goes on over two, and holds over each step of
-- a lane.
pub record IsOverSteps {D G C : Type 0} (outside : Outside D G C)
    (Goes : LanesValue D G C → LanesValue D G C → Type 0) : Type 0 where
  pub none : (lanes : LanesValue D G C) → Goes lanes lanes
  pub both : (old middle new : LanesValue D G C) → Goes old middle → Goes middle new → Goes old new
  pub performs : (today : ℕ) (command : Command) (place : ℕ) (old new : LanesValue D G C) (reply : LaneReply)
      → PerformsAt outside today command place old new reply → Goes old new
  pub looks_up : (today place : ℕ) (old new : LanesValue D G C) (step : Step)
      → LooksUpAt outside today place old new step → Goes old new
  pub drains : (today place : ℕ) (old new : LanesValue D G C) (step : Step)
      → DrainsAt outside today place old new step → Goes old new

module _ {D G C : Type 0} (outside : Outside D G C) (Goes : LanesValue D G C → LanesValue D G C → Type 0)
    (over : IsOverSteps outside Goes) where
  same : (old new : LanesValue D G C) → new ≡ old → Goes old new
  same old new is = rw is (over.none old)

  pub text_over : (today : ℕ) (command : Command) (place more : ℕ) (old new : LanesValue D G C) (reply : LaneReply)
      → TextFrom outside today command place more old new reply → Goes old new
  text_over today command place zero old new reply performs =
      over.performs today command place old new reply performs
  text_over today command place (suc more) old new reply (inl ends) =
      over.performs today command place old new reply ends.0
  text_over today command place (suc more) old new reply (inr (between, first, performs, taken, later)) =
      over.both old between new (over.performs today command place old between first performs)
      (text_over today command (place + 1) more between new reply later)

  pub look_up_over : (today place more : ℕ) (old new : LanesValue D G C) (step : Step)
      → LookUpFrom outside today place more old new step → Goes old new
  look_up_over today place zero old new step is = same old new is.0
  look_up_over today place (suc more) old new step (inl ends) = over.looks_up today place old new step ends.0
  look_up_over today place (suc more) old new step (inr (between, looks, later)) =
      over.both old between new (over.looks_up today place old between steps.Done looks)
      (look_up_over today (place + 1) more between new step later)

  pub drain_over : (today place more : ℕ) (old new : LanesValue D G C) → DrainFrom outside today place more old new
      → Goes old new
  drain_over today place zero old new is = same old new is
  drain_over today place (suc more) old new (between, step, drains, memory, later) =
      over.both old between new (over.drains today place old between step drains)
      (drain_over today (place + 1) more between new later)

  drain_part : (today place more : ℕ) (old new : LanesValue D G C)
      → DrainPart outside today place more old new → Goes old new
  drain_part today place zero old new is = same old new is
  drain_part today place (suc more) old new (inl is) = same old new is
  drain_part today place (suc more) old new (inr (between, step, drains, later)) =
      over.both old between new (over.drains today place old between step drains)
      (drain_part today (place + 1) more between new later)

  serve_command : (today : ℕ) (command : Command) (text_or_not : Bool) (old new : LanesValue D G C)
      (reply : LaneReply) → ServesCommand outside today command text_or_not old new reply → Goes old new
  serve_command today command true old new reply serves =
      text_over today command 0 (length old.lanes - 1) old new reply serves
  serve_command today command false old new reply serves =
      over.performs today command _ old new reply serves

  pub serve_over : (today : ℕ) (what : What) (old new : LanesValue D G C) (spoken : Said)
      → Serves outside today what old new spoken → Goes old new
  serve_over today (whats.Command command) old new spoken (reply, is, serves) =
      serve_command today command (is_text command) old new reply serves
  serve_over today (whats.Query query) old new spoken serves = same old new serves.1
  serve_over today whats.Janitor old new spoken (step, is, looks) =
      look_up_over today 0 (length old.lanes) old new step looks

  pub answer_over : (old new : LanesValue D G C) (read : Result Request RequestFault) (said : List ℕ)
      → Answers outside old read said new → Goes old new
  answer_over old new (Err fault) said answers = same old new answers.1
  answer_over old new (Ok request) said (today, served, spoken, day, serves, says, drains) =
      over.both old served new (serve_over today request.what old served spoken serves)
      (drain_over today _ _ served new drains)

  answer_part : (old new : LanesValue D G C) (read : Result Request RequestFault) (said : List ℕ)
      → AnswersPart outside old read said new → Goes old new
  answer_part old new (Err fault) said answers = same old new answers.1
  answer_part old new (Ok request) said (today, served, spoken, day, serves, says, drains) =
      over.both old served new (serve_over today request.what old served spoken serves)
      (drain_part today _ _ served new drains)

  pub run_over : (lines : List (List ℕ)) (first last : LanesValue D G C) (said : List ℕ)
      → IsRun (lanes_machine outside) first lines said last → Goes first last
  run_over [] first last said ran = same first last ran.1
  run_over (line ∷ lines) first last said (one, more, next, step, parts, ran) =
      over.both first next last (answer_over first next step.0 one step.2) (run_over lines next last more ran)

  cut : (unread : List (List ℕ)) (old new : LanesValue D G C) (said : List ℕ)
      → CutsFirst (lanes_machine outside) old unread said new → Goes old new
  cut [] old new said cuts = elim cuts [ ]
  cut (piece ∷ later) old new said cuts = answer_part old new cuts.1.0 said cuts.1.2

  given_up : (bytes said : List ℕ) (first last : LanesValue D G C)
      → IsGivenUp (lanes_machine outside) first bytes said last → Goes first last
  given_up bytes said first last is =
      over.both first is.middle last (run_over _ first is.middle is.answers is.ran) (by_left is.left)
    where
      by_left : ((is.said ≡ []) × (last ≡ is.middle)) ⊎ CutsFirst (lanes_machine outside) is.middle
          is.unread is.said last → Goes is.middle last
      by_left (inl left) = same is.middle last left.1
      by_left (inr cuts) = cut is.unread is.middle last is.said cuts

  stopped : (stop : RunStop) (bytes said : List ℕ) (first last : LanesValue D G C)
      → IsStopped (lanes_machine outside) first stop bytes said last → Goes first last
  stopped runs.Input bytes said first last is = run_over _ first last said is.1.ran
  stopped runs.Output bytes said first last is = given_up bytes _ first last is.answers
  stopped runs.Memory bytes said first last is = given_up bytes said first last is
  stopped runs.LineTooLong bytes said first last is = run_over _ first last said is.ran
  stopped runs.InputTooLong bytes said first last is = run_over _ first last said is.1.ran

  -- so it holds over a run, however that ends
  pub over_run : (first last : LanesValue D G C) (left left_after written written_after : Known)
      (outcome : Result (Unit {0}) Stop)
      → Applies (lanes_machine outside) first left left_after written written_after last outcome
      → Goes first last
  over_run first last left left_after written written_after (Ok done) ran =
      let told = ran.0.1 in run_over _ first last told.2.0 told.2.2.1.ran
  over_run first last left left_after written written_after (Err stops.Disk) ran =
      let told = ran.0.1 in run_over _ first last told.2.0 told.2.2.1.ran
  over_run first last left left_after written written_after (Err stops.Full) ran =
      let told = ran.0.1 in run_over _ first last told.2.0 told.2.2.1.ran
  over_run first last left left_after written written_after (Err (stops.Run stop)) ran =
      stopped stop ran.0 ran.2.0 first last ran.2.2
  over_run first last left left_after written written_after (Err stops.Words) ran = absurd ran.1
  over_run first last left left_after written written_after (Err (stops.Journal lane at)) ran = absurd ran.1
  over_run first last left left_after written written_after (Err (stops.Text fault)) ran = absurd ran.1
  over_run first last left left_after written written_after (Err stops.Market) ran = absurd ran.1
  over_run first last left left_after written written_after (Err (stops.NotEmpty lane)) ran = absurd ran.1
