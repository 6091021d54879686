-- Two lanes that are alike do the same, where nothing fails and their gateways say the same.
use Rattle.std.specs.Prelude.{◌&&◌}
use Rattle.std.proofs.Common.{◌≡◌, ℕ, zero, suc, ◌⊎◌, inl, inr, Bool, true, false, List, [], ◌∷◌, ◌++◌, Option}
use Rattle.std.proofs.Common.{None, Some, Result, Ok, Err, refl, sym, ap, subst, ◌∙◌, true≢false}
use Rattle.kb_base.specs.declared.fault.Failed.{Failed}
use Rattle.kb_book.specs.declared.reply.LaneReply.{LaneReply}
use Rattle.kb_book.specs.declared.reply.LaneReply.TheVariants as replies
use Rattle.kb_book.specs.declared.step.Step.{Step}
use Rattle.kb_book.specs.declared.step.Step.TheVariants as steps
use Rattle.kb_codec.specs.Entries.{Entry}
use Rattle.kb_codec.specs.declared.command.Command.{Command}
use Rattle.kb_gateway.specs.Answers.{heard_of_ask, heard_of_look_up, said_of_ask, said_of_look_up}
use Rattle.kb_gateway.specs.Told.{GatewayTold}
use Rattle.kb_gateway.specs.declared.order.Asked.{Asked}
use Rattle.kb_gateway.specs.declared.told.Saying.{Saying}
use Rattle.kb_gateway.specs.declared.told.Seen.{Seen}
use Rattle.kb_gateway.specs.declared.told.Seen.TheVariants as seen
use Rattle.kb_gateway.specs.declared.told.Told.{Told}
use Rattle.kb_payment.specs.declared.attempt.Status.{Status}
use Rattle.kb_ports.specs.Notes.{Notes}
use Rattle.kb_lane.specs.declared.work.Work.{Work}
use Rattle.kb_lane.specs.declared.work.Work.TheVariants.{Ask, Check}
use Rattle.kb_lane.specs.Asking.{attempt_asked}
use Rattle.kb_lane.specs.Draining.{due_of, with_outbox, works_after, Accepts, Asks, Looks, Orders, Writes}
use Rattle.kb_lane.specs.Drains.{EndsAfter, Handles, HandlesFront}
use Rattle.kb_lane.specs.Lanes.{LaneValue, machine_of}
use Rattle.kb_lane.specs.LookingUp.{EachDone, Looked, LooksAllUp, LooksUp, resettled, to_look_up}
use Rattle.kb_lane.specs.Orders.{order_of, settled_by}
use Rattle.kb_lane.specs.Outbox.{work_of}
use Rattle.kb_lane.specs.Replies.{IsReply, Performs, Takes, is_taken}
use Rattle.kb_machine.specs.Judged.{Judged}
use Rattle.kb_machine.specs.Histories.{replay}
use Rattle.kb_machine.specs.Judged.{is_new}
use Rattle.kb_machine.specs.Machines.{MachineValue, judged, reply_of}
use Rattle.kb_desk.specs.Places.{is_full_reply, is_full_step}
use Rattle.kb_apply.specs.Determined.{IsAlike, SaidAlike}
use Rattle.kb_apply.specs.LaneRuns.{Outside}
use Rattle.kb_apply.proofs.Later.{GoesLater, SaysOn, drains_later, each_later, later_then}

-- behind the same some, the next is the same
next_same : {A : Type 0} (some : List A) (one other : A) (more rest : List A)
    → (some ++ one ∷ []) ++ more ≡ (some ++ other ∷ []) ++ rest → one ≡ other
next_same [] one other more rest same = cc
next_same (first ∷ later) one other more rest same = next_same later one other more rest (cc)

-- the same is heard of two orders: they are settled alike
settled_alike : (account key : List ℕ) (one other : Result Told Failed) → heard_of_ask one ≡ heard_of_ask other
    → settled_by account key one ≡ settled_by account key other
settled_alike account key (Ok told) (Ok too) same = let is : told ≡ too = cc in ap (λ t. settled_by account key (Ok t)) is
settled_alike account key (Ok told) (Err failed) same = absurd (cc)
settled_alike account key (Err failed) (Ok told) same = absurd (cc)
settled_alike account key (Err failed) (Err too) same = refl

resettled_alike : (account key : List ℕ) (present : Status) (one other : Result Seen Failed)
    → heard_of_look_up one ≡ heard_of_look_up other
    → resettled account key present one ≡ resettled account key present other
resettled_alike account key present (Ok (seen.Told told)) (Ok (seen.Told too)) same =
    let is : told ≡ too = cc in ap (λ t. resettled account key present (Ok (seen.Told t))) is
resettled_alike account key present (Ok seen.NotSeen) (Ok seen.NotSeen) same = refl
resettled_alike account key present (Err failed) (Err too) same = refl
resettled_alike account key present (Ok (seen.Told told)) (Ok seen.NotSeen) same = absurd (cc)
resettled_alike account key present (Ok (seen.Told told)) (Err failed) same = absurd (cc)
resettled_alike account key present (Ok seen.NotSeen) (Ok (seen.Told told)) same = absurd (cc)
resettled_alike account key present (Ok seen.NotSeen) (Err failed) same = absurd (cc)
resettled_alike account key present (Err failed) (Ok (seen.Told told)) same = absurd (cc)
resettled_alike account key present (Err failed) (Ok seen.NotSeen) same = absurd (cc)

-- the reply that the machine gives is told, unless something failed
machine_reply : (told : Judged LaneReply MachineValue) (reply : LaneReply) → IsReply told reply
    → (reply ≡ replies.DiskFault → ⊥) → ((count : ℕ) → reply ≡ replies.Stopped count → ⊥)
    → is_full_reply reply ≡ false → (reply ≡ replies.NoMemory → ⊥) → reply_of told ≡ reply
machine_reply told replies.DiskFault is disk stopped full memory = absurd (disk refl)
machine_reply told (replies.Stopped count) is disk stopped full memory = absurd (stopped count refl)
machine_reply told (replies.Full commands size) is disk stopped full memory = absurd (cc)
machine_reply told replies.NoMemory is disk stopped full memory = absurd (memory refl)
machine_reply told (replies.Accepted answer) is disk stopped full memory = is
machine_reply told (replies.Version number) is disk stopped full memory = is
machine_reply told (replies.States number) is disk stopped full memory = is
machine_reply told (replies.Refused refusal) is disk stopped full memory = is

-- Two gateways that said the same were heard once more, and say the same in the end: so what was heard is the
-- same, or both cancel each order.
module _ {G : Type 0} (gateways : GatewayTold G) (last end : G) (ends : SaidAlike gateways last end) where
  heard_alike : (one other next after : G) (saying too : Saying) → SaidAlike gateways one other
      → Notes (gateways.said one) saying (gateways.said next) → Notes (gateways.said other) too (gateways.said after)
      → gateways.cancels next ≡ gateways.cancels one → gateways.cancels after ≡ gateways.cancels other
      → SaysOn gateways next last → SaysOn gateways after end
      → ((saying ≡ too) ⊎ ((gateways.cancels one ≡ true) × (gateways.cancels other ≡ true)))
      × SaidAlike gateways next after
  heard_alike one other next after saying too (inr cancel) noted heard same still goes goes_too =
      (inr cancel, inr (same ∙ cancel.0, still ∙ cancel.1))
  heard_alike one other next after saying too (inl (all, is, was)) noted heard same still goes goes_too =
      by_ends ends
    where
      noted_at : (before now : Option (List Saying)) (note : Saying) (some : List Saying) → Notes before note now
          → before ≡ Some all → now ≡ Some some → some ≡ all ++ note ∷ []
      noted_at before None note some notes told now_is = absurd (cc)
      noted_at None (Some now) note some notes told now_is = absurd (cc)
      noted_at (Some before) (Some now) note some notes told now_is =
          let one : before ≡ all = cc in
          let two : some ≡ now = cc in
          two ∙ notes ∙ ap (λ (l : List Saying). l ++ note ∷ []) one

      by_ends : SaidAlike gateways last end
          → ((saying ≡ too) ⊎ ((gateways.cancels one ≡ true) × (gateways.cancels other ≡ true)))
          × SaidAlike gateways next after
      by_ends (inr cancel) =
          let first = sym goes.cancels ∙ cancel.0 in
          let second = sym goes_too.cancels ∙ cancel.1 in
          (inr (sym same ∙ first, sym still ∙ second), inr (first, second))
      by_ends (inl (full, last_is, end_is)) =
          let later = goes.said full last_is in
          let too_later = goes_too.said full end_is in
          let one_some = noted_at (gateways.said one) (gateways.said next) saying later.0 noted is later.2 in
          let other_some = noted_at (gateways.said other) (gateways.said after) too too_later.0 heard was
          too_later.2 in
          let same_all : (all ++ saying ∷ []) ++ later.1 ≡ (all ++ too ∷ []) ++ too_later.1
          = ap (λ (l : List Saying). l ++ later.1) (sym one_some) ∙ sym later.3 ∙ too_later.3
          ∙ ap (λ (l : List Saying). l ++ too_later.1) other_some in
          let same_note = next_same all saying too later.1 too_later.1 same_all in (
            inl same_note,
            inl (
              all ++ saying ∷ [],
              later.2 ∙ ap Some one_some,
              too_later.2 ∙ ap Some (other_some ∙ ap (λ (s : Saying). all ++ s ∷ []) (sym same_note)),
            ),
          )

module _ {D G C : Type 0} (outside : Outside D G C) where
  -- a step that wrote a command on a lane that runs, and had room and memory for it, took it
  done_writes : (lane next : LaneValue D G) (entry : Entry) (step : Step)
      → Writes outside.disks.fault_count lane next entry step → next.log.journal.stopped ≡ false
      → is_full_step step ≡ false → (step ≡ steps.NoMemory → ⊥) → (step ≡ steps.Done) × Takes lane next entry
  done_writes lane next entry steps.Done is running room memory = (refl, is)
  done_writes lane next entry steps.Idle is running room memory = elim is [ ]
  done_writes lane next entry steps.DiskFault is running room memory =
      absurd (true≢false (sym is.stopped ∙ running))
  done_writes lane next entry (steps.Stopped count) is running room memory =
      absurd (true≢false (sym is.0 ∙ sym (ap (λ log. log.journal.stopped) is.2.0) ∙ running))
  done_writes lane next entry (steps.Full commands size) is running room memory = absurd (cc)
  done_writes lane next entry steps.NoMemory is running room memory = absurd (memory refl)

  -- two lanes with the same commands and the same to do take the same command
  abbrev SameWork : LaneValue D G → LaneValue D G → Type 0
  SameWork one other = (one.log.history ≡ other.log.history) × (one.outbox ≡ other.outbox)

  takes_alike : (one other next after : LaneValue D G) (entry : Entry) → SameWork one other
      → Takes one next entry → Takes other after entry → SameWork next after
  takes_alike one other next after entry same takes too = (
    takes.history ∙ ap (λ (history : _). history ++ entry ∷ []) same.0 ∙ sym too.history,
    takes.outbox ∙ ap (λ (works : List Work). works ++ work_of entry) same.1 ∙ sym too.outbox,
  )

  left_alike : (one other next after : LaneValue D G) → SameWork one other → next.log ≡ one.log
      → next.outbox ≡ one.outbox → after.log ≡ other.log → after.outbox ≡ other.outbox → SameWork next after
  left_alike one other next after same log outbox log_too outbox_too = (
    ap (λ l. l.history) log ∙ same.0 ∙ sym (ap (λ l. l.history) log_too),
    outbox ∙ same.1 ∙ sym outbox_too,
  )

  accepts_alike : (today : ℕ) (one other next after : LaneValue D G) (settled : Option Command)
      (step told : Step) → SameWork one other
      → Accepts outside.disks.fault_count one next today settled step
      → Accepts outside.disks.fault_count other after today settled told
      → next.log.journal.stopped ≡ false → after.log.journal.stopped ≡ false
      → is_full_step step ≡ false → is_full_step told ≡ false
      → (step ≡ steps.NoMemory → ⊥) → (told ≡ steps.NoMemory → ⊥)
      → (step ≡ steps.Done) × (told ≡ steps.Done) × SameWork next after
  accepts_alike today one other next after None step told same is too runs runs_too room room_too memory memory_too =
      (is.0, too.0, left_alike one other next after same is.1.0 is.1.1 too.1.0 too.1.1)
  accepts_alike today one other next after (Some command) step told same is too runs runs_too room room_too
      memory memory_too =
      let first = done_writes one next (today, command) step is runs room memory in
      let second = done_writes other after (today, command) told too runs_too room_too memory_too in
      (first.0, second.0, takes_alike one other next after (today, command) same first.1 second.1)

  -- The last two lanes, which run, and whose gateways said the same.
  module _ (last end : LaneValue D G) (running : last.log.journal.stopped ≡ false)
      (running_too : end.log.journal.stopped ≡ false)
      (ends : SaidAlike outside.gateways last.gateway end.gateway) where
    abbrev Later : LaneValue D G → LaneValue D G → Type 0
    Later lane next = GoesLater outside.gateways lane next

    runs : (lane final : LaneValue D G) → final.log.journal.stopped ≡ false → Later lane final
        → lane.log.journal.stopped ≡ false
    runs lane final runs_last later = by_stopped lane.log.journal.stopped refl
      where
        by_stopped : (stopped : Bool) → lane.log.journal.stopped ≡ stopped → lane.log.journal.stopped ≡ false
        by_stopped false is = is
        by_stopped true is = absurd (true≢false (sym (later.still is) ∙ runs_last))

    same_work : (one other : LaneValue D G) → IsAlike outside.gateways one other → SameWork one other
    same_work one other alike = (alike.history, alike.outbox)

    alike_of : (one other : LaneValue D G) → SameWork one other
        → SaidAlike outside.gateways one.gateway other.gateway → IsAlike outside.gateways one other
    alike_of one other work said = record { history = work.0; outbox = work.1; said = said }

    said_as_before : (one other next after : LaneValue D G)
        → SaidAlike outside.gateways one.gateway other.gateway → next.gateway ≡ one.gateway
        → after.gateway ≡ other.gateway → SaidAlike outside.gateways next.gateway after.gateway
    said_as_before one other next after said same still = rw (same, still) said

    -- a command is performed
    pub performs_alike : (today : ℕ) (command : Command) (one other next after : LaneValue D G)
        (reply told : LaneReply) → IsAlike outside.gateways one other
        → Performs outside.disks.fault_count one next today command reply
        → Performs outside.disks.fault_count other after today command told
        → Later next last → Later after end → is_full_reply reply ≡ false → is_full_reply told ≡ false
        → (reply ≡ replies.NoMemory → ⊥) → (told ≡ replies.NoMemory → ⊥)
        → (reply ≡ told) × IsAlike outside.gateways next after
    performs_alike today command one other next after reply told alike performs too later later_too room room_too
        memory memory_too = (
          same_reply,
          alike_of next after (by_taken (is_taken (judged (machine_of one) today command) reply) refl)
              (said_as_before one other next after alike.said performs.gateway too.gateway),
        )
      where
        next_runs : next.log.journal.stopped ≡ false
        next_runs = runs next last running later

        after_runs : after.log.journal.stopped ≡ false
        after_runs = runs after end running_too later_too

        same_judged : judged (machine_of one) today command ≡ judged (machine_of other) today command
        same_judged = ap (λ history. judged (replay history) today command) alike.history

        no_fault : reply ≡ replies.DiskFault → ⊥
        no_fault is = true≢false (sym (performs.fault is).stopped ∙ next_runs)

        no_fault_too : told ≡ replies.DiskFault → ⊥
        no_fault_too is = true≢false (sym (too.fault is).stopped ∙ after_runs)

        reply_is : reply_of (judged (machine_of one) today command) ≡ reply
        reply_is = machine_reply (judged (machine_of one) today command) reply performs.told no_fault not_stopped room memory
          where
            untaken : (count : ℕ) (replied : LaneReply) → replied ≡ replies.Stopped count
                → is_taken (judged (machine_of one) today command) replied ≡ false
            untaken count replied is = rw (is) (none (is_new (judged (machine_of one) today command)))
              where
                none : (new : Bool) → (new && false) ≡ false
                none true = refl
                none false = refl

            not_stopped : (count : ℕ) → reply ≡ replies.Stopped count → ⊥
            not_stopped count is =
                let same = performs.untaken (untaken count reply is) no_fault in
                true≢false (sym (performs.stopped count is).0
                ∙ sym (ap (λ (l : LaneValue D G). l.log.journal.stopped) same) ∙ next_runs)

        told_is : reply_of (judged (machine_of other) today command) ≡ told
        told_is = machine_reply (judged (machine_of other) today command) told too.told no_fault_too not_stopped room_too memory_too
          where
            untaken : (count : ℕ) (replied : LaneReply) → replied ≡ replies.Stopped count
                → is_taken (judged (machine_of other) today command) replied ≡ false
            untaken count replied is = rw (is) (none (is_new (judged (machine_of other) today command)))
              where
                none : (new : Bool) → (new && false) ≡ false
                none true = refl
                none false = refl

            not_stopped : (count : ℕ) → told ≡ replies.Stopped count → ⊥
            not_stopped count is =
                let same = too.untaken (untaken count told is) no_fault_too in
                true≢false (sym (too.stopped count is).0
                ∙ sym (ap (λ (l : LaneValue D G). l.log.journal.stopped) same) ∙ after_runs)

        same_reply : reply ≡ told
        same_reply = sym reply_is ∙ ap reply_of same_judged ∙ told_is

        same_taken : is_taken (judged (machine_of other) today command) told
            ≡ is_taken (judged (machine_of one) today command) reply
        same_taken = rw (same_judged, same_reply) refl

        by_taken : (taken : Bool) → is_taken (judged (machine_of one) today command) reply ≡ taken
            → SameWork next after
        by_taken true is = takes_alike one other next after (today, command) (same_work one other alike)
            (performs.taken is) (too.taken (same_taken ∙ is))
        by_taken false is =
            let same = performs.untaken is no_fault in
            let still = too.untaken (same_taken ∙ is) no_fault_too in
            left_alike one other next after (same_work one other alike)
            (ap (λ (l : LaneValue D G). l.log) same) (ap (λ (l : LaneValue D G). l.outbox) same)
            (ap (λ (l : LaneValue D G). l.log) still) (ap (λ (l : LaneValue D G). l.outbox) still)

    -- an account is looked at
    looks_alike : (today : ℕ) (front : Work) (later : List Work) (due : Option Command)
        (one other next after : LaneValue D G) (step told : Step) → IsAlike outside.gateways one other
        → Looks outside.disks.fault_count one next today front later due step
        → Looks outside.disks.fault_count other after today front later due told
        → Later next last → Later after end → is_full_step step ≡ false → is_full_step told ≡ false
        → (step ≡ steps.NoMemory → ⊥) → (told ≡ steps.NoMemory → ⊥)
        → (step ≡ steps.Done) × (told ≡ steps.Done) × IsAlike outside.gateways next after
    looks_alike today front later None one other next after step told alike looks too goes goes_too room room_too
        memory memory_too = (
          looks.0,
          too.0,
          alike_of next after (left_alike (with_outbox one later) (with_outbox other later) next after
              (alike.history, refl) (ap (λ (l : LaneValue D G). l.log) looks.1)
              (ap (λ (l : LaneValue D G). l.outbox) looks.1) (ap (λ (l : LaneValue D G). l.log) too.1)
              (ap (λ (l : LaneValue D G). l.outbox) too.1))
              (said_as_before one other next after alike.said (ap (λ (l : LaneValue D G). l.gateway) looks.1)
              (ap (λ (l : LaneValue D G). l.gateway) too.1)),
        )
    looks_alike today front later (Some command) one other next after step told alike looks too goes goes_too room
        room_too memory memory_too =
        let first = done_writes _ next (today, command) step looks.0 (runs next last running goes) room memory in
        let second = done_writes _ after (today, command) told too.0 (runs after end running_too goes_too) room_too
        memory_too in
        let takes = takes_from one next command step looks.0 first.0 in
        let takes_too = takes_from other after command told too.0 second.0 in (
          first.0,
          second.0,
          alike_of next after
              (takes_alike (with_outbox one later) (with_outbox other later) next after (today, command)
              (alike.history, refl) takes takes_too)
              (said_as_before one other next after alike.said looks.1 too.1),
        )
      where
        takes_from : (lane then : LaneValue D G) (command : Command) (step : Step)
            → Writes outside.disks.fault_count (with_outbox lane (works_after step front later)) then
            (today, command) step → step ≡ steps.Done → Takes (with_outbox lane later) then (today, command)
        takes_from lane then command steps.Done writes is = writes
        takes_from lane then command steps.Idle writes is = absurd (cc)
        takes_from lane then command steps.DiskFault writes is = absurd (cc)
        takes_from lane then command (steps.Stopped count) writes is = absurd (cc)
        takes_from lane then command (steps.Full commands size) writes is = absurd (cc)
        takes_from lane then command steps.NoMemory writes is = absurd (cc)

    -- a payment is asked for
    asks_alike : (today : ℕ) (account key : List ℕ) (later : List Work) (one other next after : LaneValue D G)
        (step told : Step) → IsAlike outside.gateways one other
        → Asks outside.disks.fault_count outside.gateways one next today account key later step
        → Asks outside.disks.fault_count outside.gateways other after today account key later told
        → Later next last → Later after end → is_full_step step ≡ false → is_full_step told ≡ false
        → (step ≡ steps.Done) × (told ≡ steps.Done) × IsAlike outside.gateways next after
    asks_alike today account key later one other next after step told alike asks too goes goes_too room room_too =
        (accepted.0, accepted.1, alike_of next after accepted.2 heard.1)
      where
        same_order : asks.order ≡ too.order
        same_order = by_some (sym asks.ordered ∙ ap (λ history. order_of (replay history) account key) alike.history
            ∙ too.ordered)
          where
            by_some : Some asks.order ≡ Some too.order → asks.order ≡ too.order
            by_some same = cc

        heard : ((said_of_ask asks.order asks.answer ≡ said_of_ask too.order too.answer)
            ⊎ ((outside.gateways.cancels one.gateway ≡ true) × (outside.gateways.cancels other.gateway ≡ true)))
            × SaidAlike outside.gateways next.gateway after.gateway
        heard = heard_alike outside.gateways last.gateway end.gateway ends one.gateway other.gateway next.gateway
            after.gateway _ _ alike.said asks.heard.heard too.heard.heard asks.heard.same too.heard.same
            goes.says goes_too.says

        same_settled : settled_by account key asks.answer ≡ settled_by account key too.answer
        same_settled = by_heard heard.0
          where
            by_heard : ((said_of_ask asks.order asks.answer ≡ said_of_ask too.order too.answer)
                ⊎ ((outside.gateways.cancels one.gateway ≡ true)
                × (outside.gateways.cancels other.gateway ≡ true)))
                → settled_by account key asks.answer ≡ settled_by account key too.answer
            by_heard (inl same) = settled_alike account key asks.answer too.answer (ap (λ s. s.heard) same)
            by_heard (inr cancels) = ap (settled_by account key)
                (asks.heard.canceled cancels.0 ∙ sym (too.heard.canceled cancels.1))

        accepted : (step ≡ steps.Done) × (told ≡ steps.Done) × SameWork next after
        accepted = accepts_alike today (with_outbox one later) (with_outbox other later) next after
            (settled_by account key asks.answer) step told (alike.history, refl) asks.settled
            (subst (λ settled. Accepts outside.disks.fault_count (with_outbox other later) after today settled told)
            (sym same_settled) too.settled) (runs next last running goes) (runs after end running_too goes_too)
            room room_too asks.ready too.ready

    orders_alike : (today : ℕ) (account key : List ℕ) (later : List Work) (one other next after : LaneValue D G)
        (step told : Step) → IsAlike outside.gateways one other
        → Orders outside.disks.fault_count outside.gateways one next today account key later step
        → Orders outside.disks.fault_count outside.gateways other after today account key later told
        → Later next last → Later after end → is_full_step step ≡ false → is_full_step told ≡ false
        → (step ≡ steps.NoMemory → ⊥) → (told ≡ steps.NoMemory → ⊥)
        → (step ≡ steps.Done) × (told ≡ steps.Done) × IsAlike outside.gateways next after
    orders_alike today account key later one other next after step told alike orders too goes goes_too room room_too
        memory memory_too =
        asks_alike today account key later one other next after step told alike
        (asked one next step orders (runs next last running goes) memory)
        (asked other after told too (runs after end running_too goes_too) memory_too)
        goes goes_too room room_too
      where
        asked : (lane then : LaneValue D G) (step : Step)
            → Orders outside.disks.fault_count outside.gateways lane then today account key later step
            → then.log.journal.stopped ≡ false → (step ≡ steps.NoMemory → ⊥)
            → Asks outside.disks.fault_count outside.gateways lane then today account key later step
        asked lane then (steps.Stopped count) is runs_then memory = absurd (true≢false (sym is.0
            ∙ sym (ap (λ (l : LaneValue D G). l.log.journal.stopped) is.2) ∙ runs_then))
        asked lane then steps.NoMemory is runs_then memory = absurd (memory refl)
        asked lane then steps.Idle is runs_then memory = is
        asked lane then steps.Done is runs_then memory = is
        asked lane then steps.DiskFault is runs_then memory = is
        asked lane then (steps.Full commands size) is runs_then memory = is

    -- the entry at the front is handled: there is none, for both, or both are done with it
    front_alike : (today : ℕ) (works : List Work) (one other next after : LaneValue D G) (step told : Step)
        → IsAlike outside.gateways one other
        → HandlesFront outside.disks.fault_count outside.gateways today works one next step
        → HandlesFront outside.disks.fault_count outside.gateways today works other after told
        → Later next last → Later after end → is_full_step step ≡ false → is_full_step told ≡ false
        → (step ≡ steps.NoMemory → ⊥) → (told ≡ steps.NoMemory → ⊥)
        → (step ≡ told) × IsAlike outside.gateways next after
    front_alike today [] one other next after step told alike does too goes goes_too room room_too memory memory_too =
        (does.0 ∙ sym too.0, rw (does.1, too.1) alike)
    front_alike today (Check account ∷ later) one other next after step told alike does too goes goes_too room room_too
        memory memory_too =
        let due = ap (λ history. due_of (replay history) today account) alike.history in
        let done = looks_alike today (Check account) later (due_of (machine_of one) today account) one other next
        after step told alike does
        (subst (λ command. Looks outside.disks.fault_count other after today (Check account) later command told)
        (sym due) too) goes goes_too room room_too memory memory_too in
        (done.0 ∙ sym done.1, done.2)
    front_alike today (Ask account key ∷ later) one other next after step told alike does too goes goes_too room
        room_too memory memory_too =
        let done = orders_alike today account key later one other next after step told alike does too goes goes_too
        room room_too memory memory_too in
        (done.0 ∙ sym done.1, done.2)

    handles_alike : (today : ℕ) (one other next after : LaneValue D G) (step told : Step)
        → IsAlike outside.gateways one other
        → Handles outside.disks.fault_count outside.gateways today one next step
        → Handles outside.disks.fault_count outside.gateways today other after told
        → Later next last → Later after end → is_full_step step ≡ false → is_full_step told ≡ false
        → (step ≡ steps.NoMemory → ⊥) → (told ≡ steps.NoMemory → ⊥)
        → (step ≡ told) × IsAlike outside.gateways next after
    handles_alike today one other next after step told alike does too =
        front_alike today one.outbox one other next after step told alike does
        (subst (λ works. HandlesFront outside.disks.fault_count outside.gateways today works other after told)
        (sym alike.outbox) too)

    done_room : is_full_step steps.Done ≡ false
    done_room = refl

    done_memory : steps.Done ≡ steps.NoMemory → ⊥
    done_memory is = cc

    -- the outbox is drained
    pub drains_alike : (today count other_count : ℕ) (one other next after : LaneValue D G) (step told : Step)
        → IsAlike outside.gateways one other
        → EndsAfter (Handles outside.disks.fault_count outside.gateways today) count one next step
        → EndsAfter (Handles outside.disks.fault_count outside.gateways today) other_count other after told
        → Later next last → Later after end → is_full_step step ≡ false → is_full_step told ≡ false
        → (step ≡ steps.NoMemory → ⊥) → (told ≡ steps.NoMemory → ⊥)
        → IsAlike outside.gateways next after
    drains_alike today zero zero one other next after step told alike drains too goes goes_too room room_too memory
        memory_too =
        (handles_alike today one other next after step told alike drains.1 too.1 goes goes_too room room_too memory
        memory_too).1
    drains_alike today zero (suc other_count) one other next after step told alike drains
        (between, first, later) goes goes_too room room_too memory memory_too =
        let from = later_then outside between after end
        (drains_later outside today other_count between after told later) goes_too in
        let same = handles_alike today one other next between step steps.Done alike drains.1 first goes from room
        done_room memory done_memory in
        absurd (drains.0 same.0)
    drains_alike today (suc count) zero one other next after step told alike (between, first, later) too goes
        goes_too room room_too memory memory_too =
        let from = later_then outside between next last (drains_later outside today count between next step later)
        goes in
        let same = handles_alike today one other between after steps.Done told alike first too.1 from goes_too
        done_room room_too done_memory memory_too in
        absurd (too.0 (sym same.0))
    drains_alike today (suc count) (suc other_count) one other next after step told alike (between, first, later)
        (middle, second, more) goes goes_too room room_too memory memory_too =
        let from = later_then outside between next last (drains_later outside today count between next step later)
        goes in
        let from_too = later_then outside middle after end
        (drains_later outside today other_count middle after told more) goes_too in
        let same = handles_alike today one other between middle steps.Done steps.Done alike first second from from_too
        done_room done_room done_memory done_memory in
        drains_alike today count other_count between middle next after step told same.1 later more goes goes_too room
        room_too memory memory_too

    -- an open payment is looked up
    looks_up_alike : (today : ℕ) (payment : Asked) (one other next after : LaneValue D G) (step told : Step)
        → IsAlike outside.gateways one other
        → LooksUp outside.disks.fault_count outside.gateways one next today payment step
        → LooksUp outside.disks.fault_count outside.gateways other after today payment told
        → Later next last → Later after end → is_full_step step ≡ false → is_full_step told ≡ false
        → (step ≡ steps.NoMemory → ⊥) → (told ≡ steps.NoMemory → ⊥)
        → (step ≡ steps.Done) × (told ≡ steps.Done) × IsAlike outside.gateways next after
    looks_up_alike today payment one other next after step told alike looks too goes goes_too room room_too memory
        memory_too = (accepted.0, accepted.1, alike_of next after accepted.2 heard.1)
      where
        same_order : looks.order ≡ too.order
        same_order = by_some (sym looks.ordered
            ∙ ap (λ history. order_of (replay history) payment.account payment.key) alike.history ∙ too.ordered)
          where
            by_some : Some looks.order ≡ Some too.order → looks.order ≡ too.order
            by_some same = cc

        same_status : looks.attempt.status ≡ too.attempt.status
        same_status = by_some (sym looks.there
            ∙ ap (λ history. attempt_asked (replay history) payment) alike.history ∙ too.there)
          where
            by_some : Some looks.attempt ≡ Some too.attempt → looks.attempt.status ≡ too.attempt.status
            by_some same = cc

        heard : ((said_of_look_up looks.order looks.answer ≡ said_of_look_up too.order too.answer)
            ⊎ ((outside.gateways.cancels one.gateway ≡ true) × (outside.gateways.cancels other.gateway ≡ true)))
            × SaidAlike outside.gateways next.gateway after.gateway
        heard = heard_alike outside.gateways last.gateway end.gateway ends one.gateway other.gateway next.gateway
            after.gateway _ _ alike.said looks.heard.heard too.heard.heard looks.heard.same too.heard.same
            goes.says goes_too.says

        same_settled : resettled payment.account payment.key looks.attempt.status looks.answer
            ≡ resettled payment.account payment.key too.attempt.status too.answer
        same_settled = by_heard heard.0
            ∙ ap (λ status. resettled payment.account payment.key status too.answer) same_status
          where
            by_heard : ((said_of_look_up looks.order looks.answer ≡ said_of_look_up too.order too.answer)
                ⊎ ((outside.gateways.cancels one.gateway ≡ true)
                × (outside.gateways.cancels other.gateway ≡ true)))
                → resettled payment.account payment.key looks.attempt.status looks.answer
                ≡ resettled payment.account payment.key looks.attempt.status too.answer
            by_heard (inl same) = resettled_alike payment.account payment.key looks.attempt.status looks.answer
                too.answer (ap (λ s. s.heard) same)
            by_heard (inr cancels) = ap (resettled payment.account payment.key looks.attempt.status)
                (looks.heard.unseen cancels.0 ∙ sym (too.heard.unseen cancels.1))

        accepted : (step ≡ steps.Done) × (told ≡ steps.Done) × SameWork next after
        accepted = accepts_alike today one other next after
            (resettled payment.account payment.key looks.attempt.status looks.answer) step told
            (same_work one other alike) looks.settled
            (subst (λ settled. Accepts outside.disks.fault_count other after today settled told)
            (sym same_settled) too.settled) (runs next last running goes) (runs after end running_too goes_too)
            room room_too memory memory_too

    -- a payment that a lane that runs handled was looked up
    was_looked_up : (today : ℕ) (payment : Asked) (lane then : LaneValue D G) (step : Step)
        → Looked outside.disks.fault_count outside.gateways today lane then payment step
        → then.log.journal.stopped ≡ false
        → LooksUp outside.disks.fault_count outside.gateways lane then today payment step
    was_looked_up today payment lane then (steps.Stopped count) is runs_then = absurd (true≢false (sym is.0
        ∙ sym (ap (λ (l : LaneValue D G). l.log.journal.stopped) is.2) ∙ runs_then))
    was_looked_up today payment lane then steps.Idle is runs_then = is
    was_looked_up today payment lane then steps.Done is runs_then = is
    was_looked_up today payment lane then steps.DiskFault is runs_then = is
    was_looked_up today payment lane then (steps.Full commands size) is runs_then = is
    was_looked_up today payment lane then steps.NoMemory is runs_then = is

    looked_alike : (today : ℕ) (payment : Asked) (one other next after : LaneValue D G) (step told : Step)
        → IsAlike outside.gateways one other
        → Looked outside.disks.fault_count outside.gateways today one next payment step
        → Looked outside.disks.fault_count outside.gateways today other after payment told
        → Later next last → Later after end → is_full_step step ≡ false → is_full_step told ≡ false
        → (step ≡ steps.NoMemory → ⊥) → (told ≡ steps.NoMemory → ⊥)
        → (step ≡ steps.Done) × (told ≡ steps.Done) × IsAlike outside.gateways next after
    looked_alike today payment one other next after step told alike looks too goes goes_too =
        looks_up_alike today payment one other next after step told alike
        (was_looked_up today payment one next step looks (runs next last running goes))
        (was_looked_up today payment other after told too (runs after end running_too goes_too)) goes goes_too

    each_alike : (today : ℕ) (payments : List Asked) (one other next after : LaneValue D G) (step told : Step)
        → IsAlike outside.gateways one other
        → EachDone (Looked outside.disks.fault_count outside.gateways today) one next payments step
        → EachDone (Looked outside.disks.fault_count outside.gateways today) other after payments told
        → Later next last → Later after end → is_full_step step ≡ false → is_full_step told ≡ false
        → (step ≡ steps.NoMemory → ⊥) → (told ≡ steps.NoMemory → ⊥)
        → (step ≡ told) × IsAlike outside.gateways next after
    each_alike today [] one other next after step told alike each too goes goes_too room room_too memory memory_too =
        (each.0 ∙ sym too.0, rw (each.1, too.1) alike)
    each_alike today (payment ∷ more) one other next after step told alike (inl each) (inl too) goes goes_too room
        room_too memory memory_too =
        let done = looked_alike today payment one other next after step told alike each.1 too.1 goes goes_too room
        room_too memory memory_too in
        absurd (each.0 done.0)
    each_alike today (payment ∷ more) one other next after step told alike (inl each) (inr (middle, second, rest))
        goes goes_too room room_too memory memory_too =
        let from_too = later_then outside middle after end (each_later outside today more middle after told rest)
        goes_too in
        let done = looked_alike today payment one other next middle step steps.Done alike each.1 second goes from_too
        room done_room memory done_memory in
        absurd (each.0 done.0)
    each_alike today (payment ∷ more) one other next after step told alike (inr (between, first, later)) (inl too)
        goes goes_too room room_too memory memory_too =
        let from = later_then outside between next last (each_later outside today more between next step later) goes in
        let done = looked_alike today payment one other between after steps.Done told alike first too.1 from goes_too
        done_room room_too done_memory memory_too in
        absurd (too.0 done.1)
    each_alike today (payment ∷ more) one other next after step told alike (inr (between, first, later))
        (inr (middle, second, rest)) goes goes_too room room_too memory memory_too =
        let from = later_then outside between next last (each_later outside today more between next step later) goes in
        let from_too = later_then outside middle after end (each_later outside today more middle after told rest)
        goes_too in
        let done = looked_alike today payment one other between middle steps.Done steps.Done alike first second from
        from_too done_room done_room done_memory done_memory in
        each_alike today more between middle next after step told done.2 later rest goes goes_too room room_too memory
        memory_too

    -- a lane looks its open payments up
    pub looks_all_alike : (today : ℕ) (one other next after : LaneValue D G) (step told : Step)
        → IsAlike outside.gateways one other
        → LooksAllUp outside.disks.fault_count outside.gateways today one next step
        → LooksAllUp outside.disks.fault_count outside.gateways today other after told
        → Later next last → Later after end → is_full_step step ≡ false → is_full_step told ≡ false
        → (step ≡ steps.NoMemory → ⊥) → (told ≡ steps.NoMemory → ⊥)
        → (step ≡ told) × IsAlike outside.gateways next after
    looks_all_alike today one other next after step told alike looks too goes goes_too room room_too memory
        memory_too =
        each_alike today (to_look_up one) one other next after step told alike (by_each one next step looks memory)
        (subst (λ payments. EachDone (Looked outside.disks.fault_count outside.gateways today) other after payments
        told) (sym same_payments) (by_each other after told too memory_too)) goes goes_too room room_too memory
        memory_too
      where
        same_payments : to_look_up one ≡ to_look_up other
        same_payments = rw (alike.history, alike.outbox) refl

        by_each : (lane then : LaneValue D G) (step : Step)
            → LooksAllUp outside.disks.fault_count outside.gateways today lane then step
            → (step ≡ steps.NoMemory → ⊥)
            → EachDone (Looked outside.disks.fault_count outside.gateways today) lane then (to_look_up lane) step
        by_each lane then step all memory = elim all.looked [
          | inl each ↦ each
          | inr none ↦ absurd (memory none.0)
        ]
