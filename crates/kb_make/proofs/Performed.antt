-- What the performing of a command leaves, by its reply.
use Rattle.std.proofs.Common.{◌≡◌, ℕ, Bool, true, false, true≢false, ◌&&◌, List, [], ◌++◌, if◌then◌else◌}
use Rattle.std.proofs.Common.{is_some, IfOk, OnOk, refl, sym, ap, ap₂, ◌∙◌}
use Rattle.kb_codec.specs.declared.command.Command.{Command}
use Rattle.kb_book.specs.declared.reply.LaneReply.{LaneReply}
use Rattle.kb_book.specs.declared.reply.LaneReply.TheVariants as replies
use Rattle.kb_machine.specs.Judged.{Judged, New, Again, Refused, after_judged, is_new, refusal_in}
use Rattle.kb_machine.specs.Machines.{MachineValue, judged, reply_of}
use Rattle.kb_machine.specs.Histories.{replay}
use Rattle.kb_lane.specs.declared.work.Work.{Work}
use Rattle.kb_lane.specs.Lanes.{LaneValue, machine_of}
use Rattle.kb_lane.specs.Replies.{IsReply, Takes, is_accepted, is_taken}
use Rattle.kb_lane.specs.Outbox.{work_of}
use Rattle.kb_machine.proofs.Replays.{replay_more}
use Rattle.kb_lane.proofs.SaidReplies.{Accepts, judged_accepts}
use Rattle.kb_make.specs.Makes.{is_refused, sent}
use Rattle.kb_make.specs.Private.Sending.{busy_of, told_refused}
use Rattle.kb_make.proofs.Busy.{busy_same}

-- what is refused is told as a refusal, and nothing else is
told-unrefused : {A : Type 0} (told : Judged LaneReply A) (reply : LaneReply) → reply_of told ≡ reply
    → is_accepted reply ≡ true → is_some (refusal_in told) ≡ false
told-unrefused (New own after) reply is accepts = refl
told-unrefused (Again own) reply is accepts = refl
told-unrefused (Refused refusal) reply is accepts = absurd
    (true≢false (sym accepts ∙ sym (ap is_accepted is)))

told-refusal : {A : Type 0} (told : Judged LaneReply A) (reply : LaneReply) → Accepts told
    → reply_of told ≡ reply
    → is_accepted reply ≡ false → is_some (refusal_in told) ≡ true
told-refusal (New own after) reply accepts is refuses =
    absurd (true≢false (sym accepts ∙ ap is_accepted is ∙ refuses))
told-refusal (Again own) reply accepts is refuses = absurd
    (true≢false (sym accepts ∙ ap is_accepted is ∙ refuses))
told-refusal (Refused refusal) reply accepts is refuses = refl

-- what isn't new changes nothing
unnew-stays : {A : Type 0} (before : A) (told : Judged LaneReply A) → is_new told ≡ false
    → after_judged before told ≡ before
unnew-stays before (New reply after) old = absurd (true≢false old)
unnew-stays before (Again reply) old = refl
unnew-stays before (Refused refusal) old = refl

refused-unnew : {A : Type 0} (told : Judged LaneReply A) → is_some (refusal_in told) ≡ true
    → is_new told ≡ false
refused-unnew (New reply after) refused = absurd (true≢false (sym refused))
refused-unnew (Again reply) refused = refl
refused-unnew (Refused refusal) refused = refl

module _ {D G : Type 0} (old new : LaneValue D G) (today : ℕ) (command : Command)
    (idle : old.outbox ≡ []) where
  abbrev told : Judged LaneReply MachineValue
  told = judged (machine_of old) today command

  abbrev works-if : Bool → List Work
  works-if fresh = if fresh then work_of (today, command) else []

  -- it is taken
  taken-sent : is_new told ≡ true → Takes old new (today, command)
      → busy_of new ≡ sent (machine_of old) (today, command)
  taken-sent fresh takes =
      busy_same (machine_of new) _ new.outbox _
      (ap replay takes.history ∙ replay_more old.log.history (today, command))
      (takes.outbox ∙ ap (λ (works : List Work). works ++ work_of (today, command)) idle
      ∙ ap works-if (sym fresh))

  -- or the lane is as it was
  untaken-sent : is_new told ≡ false → new ≡ old → busy_of new ≡ sent (machine_of old) (today, command)
  untaken-sent known same =
      ap busy_of same
      ∙ busy_same (machine_of old) _ old.outbox _ (sym (unnew-stays (machine_of old) told known))
      (idle ∙ ap works-if (sym known))

  module _ (reply : LaneReply) (is : IsReply told reply)
      (taken : is_taken told reply ≡ true → Takes old new (today, command))
      (untaken : is_taken told reply ≡ false → (reply ≡ replies.DiskFault → ⊥) → new ≡ old) where
    accepted-sent : is_accepted reply ≡ true → (reply ≡ replies.DiskFault → ⊥) → (fresh : Bool)
        → is_new told ≡ fresh
        → busy_of new ≡ sent (machine_of old) (today, command)
    accepted-sent accepts calm true fresh =
        taken-sent fresh (taken (ap₂ (λ (one other : Bool). one && other) fresh accepts))
    accepted-sent accepts calm false known =
        untaken-sent known (untaken (ap₂ (λ (one other : Bool). one && other) known accepts) calm)

    refused-sent : is_some (refusal_in told) ≡ true → (reply ≡ replies.DiskFault → ⊥)
        → busy_of new ≡ sent (machine_of old) (today, command)
    refused-sent refused calm =
        let known = refused-unnew told refused in
        untaken-sent known (untaken (ap (λ (one : Bool). one && is_accepted reply) known) calm)

  pub performed_sent : (reply : LaneReply) → IsReply told reply
      → (is_taken told reply ≡ true → Takes old new (today, command))
      → (is_taken told reply ≡ false → (reply ≡ replies.DiskFault → ⊥) → new ≡ old)
      → OnOk (told_refused reply) (busy_of new ≡ sent (machine_of old) (today, command))
  performed_sent (replies.Accepted answer) is taken untaken =
      accepted-sent (replies.Accepted answer) is taken untaken refl (λ fault. cc) (is_new told) refl
  performed_sent (replies.Version number) is taken untaken =
      accepted-sent (replies.Version number) is taken untaken refl (λ fault. cc) (is_new told) refl
  performed_sent (replies.States number) is taken untaken =
      accepted-sent (replies.States number) is taken untaken refl (λ fault. cc) (is_new told) refl
  performed_sent (replies.Refused refusal) is taken untaken =
      refused-sent (replies.Refused refusal) is taken untaken
      (told-refusal told (replies.Refused refusal) (judged_accepts (machine_of old) today command) is refl)
      (λ fault. cc)
  performed_sent replies.DiskFault is taken untaken = tt
  performed_sent (replies.Stopped count) is taken untaken = tt
  performed_sent (replies.Full commands size) is taken untaken = tt
  performed_sent replies.NoMemory is taken untaken = tt

-- whether it is refused
pub performed_refused : (machine : MachineValue) (today : ℕ) (command : Command) (reply : LaneReply)
    → IsReply (judged machine today command) reply
    → IfOk (told_refused reply) (λ refused. refused ≡ is_refused machine (today, command))
performed_refused machine today command (replies.Accepted answer) is =
    sym (told-unrefused (judged machine today command) (replies.Accepted answer) is refl)
performed_refused machine today command (replies.Version number) is =
    sym (told-unrefused (judged machine today command) (replies.Version number) is refl)
performed_refused machine today command (replies.States number) is =
    sym (told-unrefused (judged machine today command) (replies.States number) is refl)
performed_refused machine today command (replies.Refused refusal) is =
    sym (told-refusal (judged machine today command) (replies.Refused refusal)
    (judged_accepts machine today command) is
    refl)
performed_refused machine today command replies.DiskFault is = tt
performed_refused machine today command (replies.Stopped count) is = tt
performed_refused machine today command (replies.Full commands size) is = tt
performed_refused machine today command replies.NoMemory is = tt
