-- What is done by one lane after another.
use Rattle.std.proofs.Common.{◌≡◌, ℕ, zero, suc, ◌+◌, ◌-◌, ◌<◌, ◌≤◌, arith, true, false, inl, inr, refl, sym}
use Rattle.std.proofs.Common.{subst}
use Rattle.kb_codec.specs.declared.command.Command.{Command}
use Rattle.kb_book.specs.declared.reply.LaneReply.{LaneReply}
use Rattle.kb_book.specs.declared.step.Step.{Step}
use Rattle.kb_book.specs.declared.step.Step.TheVariants as steps
use Rattle.kb_apply.specs.LaneRuns.{Outside, LanesValue, PerformsAt, TextFrom, LooksUpAt, LookUpFrom}
use Rattle.kb_apply.specs.LaneRuns.{DrainsAt, DrainFrom, DrainPart}
use Rattle.kb_desk.specs.Places.{is_taken_text}

-- one place less is left
left-one : (place last : ℕ) → place < last → last - place ≡ suc (last - (place + 1))
left-one place last inside = omega (arith, inside)

left-none : (place last : ℕ) → last ≤ place → last - place ≡ 0
left-none place last end = omega (arith, end)

module _ {D G C : Type 0} (outside : Outside D G C) (today place last : ℕ) where
  module _ (command : Command) (now : LanesValue D G C) where
    -- the lane at this place doesn't take a text, so no other one is given it
    pub text_ends : place < last → (new : LanesValue D G C) (reply : LaneReply)
        → PerformsAt outside today command place now new reply → is_taken_text reply ≡ false
        → TextFrom outside today command place (last - place) now new reply
    text_ends inside new reply performs untaken =
        subst (λ more. TextFrom outside today command place more now new reply)
        (sym (left-one place last inside))
        (inl (performs, untaken))

    -- it takes it, and the next one is given it
    pub text_goes_on : place < last → (next : LanesValue D G C) (first : LaneReply)
        → PerformsAt outside today command place now next first → is_taken_text first ≡ true
        → (new : LanesValue D G C) (reply : LaneReply)
        → TextFrom outside today command (place + 1) (last - (place + 1)) next new reply
        → TextFrom outside today command place (last - place) now new reply
    text_goes_on inside next first performs taken new reply later =
        subst (λ more. TextFrom outside today command place more now new reply)
        (sym (left-one place last inside))
        (inr (next, first, performs, taken, later))

    -- it is the last one
    pub text_last : last ≤ place → (new : LanesValue D G C) (reply : LaneReply)
        → PerformsAt outside today command place now new reply
        → TextFrom outside today command place (last - place) now new reply
    text_last end new reply performs =
        subst (λ more. TextFrom outside today command place more now new reply)
        (sym (left-none place last end)) performs

  module _ (now : LanesValue D G C) where
    pub look_up_ends : place < last → (new : LanesValue D G C) (step : Step)
        → LooksUpAt outside today place now new step → (step ≡ steps.Done → ⊥)
        → LookUpFrom outside today place (last - place) now new step
    look_up_ends inside new step looks undone =
        subst (λ more. LookUpFrom outside today place more now new step) (sym (left-one place last inside))
        (inl (looks, undone))

    pub look_up_goes_on : place < last → (next : LanesValue D G C)
        → LooksUpAt outside today place now next steps.Done
        → (new : LanesValue D G C) (step : Step)
        → LookUpFrom outside today (place + 1) (last - (place + 1)) next new step
        → LookUpFrom outside today place (last - place) now new step
    look_up_goes_on inside next looks new step later =
        subst (λ more. LookUpFrom outside today place more now new step) (sym (left-one place last inside))
        (inr (next, looks, later))

    pub none_left : last ≤ place → LookUpFrom outside today place (last - place) now now steps.Done
    none_left end =
        subst (λ more. LookUpFrom outside today place more now now steps.Done)
        (sym (left-none place last end)) (refl, refl)

    pub drain_goes_on : place < last → (next : LanesValue D G C) (step : Step)
        → DrainsAt outside today place now next step → (step ≡ steps.NoMemory → ⊥) → (new : LanesValue D G C)
        → DrainFrom outside today (place + 1) (last - (place + 1)) next new
        → DrainFrom outside today place (last - place) now new
    drain_goes_on inside next step drains memory new later =
        subst (λ more. DrainFrom outside today place more now new) (sym (left-one place last inside))
        (next, step, drains, memory, later)

    pub part_goes_on : place < last → (next : LanesValue D G C) (step : Step)
        → DrainsAt outside today place now next step → (new : LanesValue D G C)
        → DrainPart outside today (place + 1) (last - (place + 1)) next new
        → DrainPart outside today place (last - place) now new
    part_goes_on inside next step drains new later =
        subst (λ more. DrainPart outside today place more now new) (sym (left-one place last inside))
        (inr (next, step, drains, later))

-- a part of a drain may end anywhere
pub part_ends : {D G C : Type 0} (outside : Outside D G C) (today place more : ℕ) (now : LanesValue D G C)
    → DrainPart outside today place more now now
part_ends outside today place zero now = refl
part_ends outside today place (suc more) now = inl refl
