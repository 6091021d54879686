-- One of some lanes, and what it tells.
use Rattle.std.specs.Prelude.{ℕ, ◌+◌, ◌≡◌, Bool, true, false, List, [], ◌∷◌, set, slice_get, Some, refl}
use Rattle.kb_book.specs.declared.reply.LaneReply.{LaneReply}
use Rattle.kb_book.specs.declared.reply.LaneReply.TheVariants as replies
use Rattle.kb_book.specs.declared.step.Step.{Step}
use Rattle.kb_book.specs.declared.step.Step.TheVariants as steps

-- The lane at a place goes on, and the others stay as they are.
abbrev pub GoesAt : {L : Type 0} → (L → L → Type 0) → ℕ → List L → List L → Type 0
GoesAt Goes place old new = (lane : _) × (next : _) × (slice_get old place ≡ Some lane)
    × (new ≡ set old place next) × Goes lane next

the_second_goes_on : GoesAt (λ lane next. next ≡ lane + 1) 1 (5 ∷ 7 ∷ []) (5 ∷ 8 ∷ [])
the_second_goes_on = (7, 8, refl, refl, refl)

-- there was no room
abbrev pub is_full_reply : LaneReply → Bool
is_full_reply (replies.Full commands size) = true
is_full_reply reply = false

abbrev pub is_full_step : Step → Bool
is_full_step (steps.Full commands size) = true
is_full_step step = false

done_is_not_full : is_full_step steps.Done ≡ false
done_is_not_full = refl

-- a text is taken by a lane, now or before
abbrev pub is_taken_text : LaneReply → Bool
is_taken_text (replies.Version number) = true
is_taken_text (replies.States number) = true
is_taken_text reply = false

version_3_is_taken : is_taken_text (replies.Version 3) ≡ true
version_3_is_taken = refl

a_failed_disk_takes_none : is_taken_text replies.DiskFault ≡ false
a_failed_disk_takes_none = refl
