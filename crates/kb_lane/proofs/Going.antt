-- What each step does to a log, and what a run of steps does.
use Rattle.std.proofs.Common.{◌≡◌, ℕ, ◌⊎◌, ◌&&◌, arith, inl, inr, Bool, true, false, true≢false}
use Rattle.std.proofs.Common.{List, [], ◌∷◌, Option, None, Some, refl, sym, ap, subst, ◌∙◌}
use Rattle.std.proofs.lemmas.Bool.{and_parts, cases_Bool}
use Rattle.std.proofs.lemmas.List.{append-nil}
use Rattle.kb_codec.specs.declared.command.Command.{Command}
use Rattle.kb_book.specs.declared.reply.LaneReply.{LaneReply}
use Rattle.kb_book.specs.declared.reply.LaneReply.TheVariants as replies
use Rattle.kb_book.specs.declared.step.Step.{Step}
use Rattle.kb_book.specs.declared.step.Step.TheVariants as steps
use Rattle.kb_codec.specs.Entries.{Entry}
use Rattle.kb_lane.specs.Logs.{LogValue}
use Rattle.kb_machine.specs.Judged.{Judged, is_new}
use Rattle.kb_machine.specs.Machines.{MachineValue, judged}
use Rattle.kb_lane.specs.Lanes.{LaneValue, StandsThroughout, StandsWithin, StaysItself, machine_of}
use Rattle.kb_lane.specs.Going.{GoesWell}
use Rattle.kb_lane.specs.Replies.{Takes, IsMarked, Performs, is_accepted, is_taken}
use Rattle.kb_lane.specs.Draining.{Writes, Accepts, IsWritten}
use Rattle.kb_lane.proofs.Within.{past_none, past_one, past_then, within_mark, within_past, within_then}
use Rattle.kb_lane.proofs.Within.{goes_on}

module _ {D : Type 0} (honest : D → Bool) (moment : D → ℕ) (left_since : D → ℕ → List ℕ → Type 0) where
  -- nothing is written
  pub well_none : (old new : LogValue D) → new ≡ old → GoesWell honest moment left_since old new
  well_none old new same = record {
    further = ([], ap (λ log. log.history) same ∙ sym (append-nil old.history));
    within = within_past honest moment left_since old new (past_none honest moment left_since old new same);
    past = λ running. past_none honest moment left_since old new same;
    still = λ stopped. same;
  }

  -- one run after another
  module _ (old middle new : LogValue D) (first : GoesWell honest moment left_since old middle)
      (second : GoesWell honest moment left_since middle new)
      (as_honest : honest middle.journal.disk ≡ honest old.journal.disk)
      (lanes : new.journal.lanes ≡ middle.journal.lanes) (lane : new.journal.lane ≡ middle.journal.lane) where
    pub well_then : GoesWell honest moment left_since old new
    well_then = record {
      further = goes_on old.history middle.history new.history first.further second.further;
      within = within (cases_Bool middle.journal.stopped);
      past = λ running. past_then honest moment left_since old middle new (first.past (runs running))
          (runs running) as_honest first.further second.further lanes lane (second.past running);
      still = λ stopped. second.still (ap (λ log. log.journal.stopped) (first.still stopped) ∙ stopped)
          ∙ first.still stopped;
    }
      where
        runs : new.journal.stopped ≡ false → middle.journal.stopped ≡ false
        runs running = elim (cases_Bool middle.journal.stopped) [
          | inl stopped ↦ absurd (true≢false (sym stopped
              ∙ sym (ap (λ log. log.journal.stopped) (second.still stopped)) ∙ running))
          | inr goes ↦ goes
        ]

        within : (middle.journal.stopped ≡ true) ⊎ (middle.journal.stopped ≡ false)
            → StandsWithin honest moment left_since old new
        within (inl stopped) =
            let P : LogValue D → Type 0 = λ log. StandsWithin honest moment left_since old log in
            subst P (sym (second.still stopped)) first.within
        within (inr goes) = within_then honest moment left_since old middle new (first.past goes)
            goes as_honest
            first.further second.further lanes lane second.within

  module _ {G : Type 0} (fault_count : D → ℕ) (old new : LaneValue D G) (entry : Entry)
      (lanes : new.log.journal.lanes ≡ old.log.journal.lanes)
      (lane : new.log.journal.lane ≡ old.log.journal.lane) where
    -- a command is taken
    well-takes : Takes old new entry → StandsThroughout honest moment left_since old.log new.log entry
        → GoesWell honest moment left_since old.log new.log
    well-takes takes stands =
        let past = past_one honest moment left_since old.log new.log entry lanes lane stands takes.history in
        record {
          further = (entry ∷ [], takes.history);
          within = within_past honest moment left_since old.log new.log past;
          past = λ running. past;
          still = λ stopped. absurd (true≢false (sym stopped ∙ takes.may.0));
        }

    -- its append failed
    well-marked : IsMarked fault_count old new entry
        → StandsThroughout honest moment left_since old.log new.log entry
        → GoesWell honest moment left_since old.log new.log
    well-marked marks stands = record {
      further = ([], marks.history ∙ sym (append-nil old.log.history));
      within = within_mark honest moment left_since old.log new.log entry lanes lane stands
          marks.history marks.marked;
      past = λ running. absurd (true≢false (sym marks.stopped ∙ running));
      still = λ stopped. absurd (true≢false (sym stopped ∙ marks.may.0));
    }

    -- a step that writes a command
    pub well_writes : (step : Step) → Writes fault_count old new entry step
        → ((other : Entry) → IsWritten old.log new.log other
        → StandsThroughout honest moment left_since old.log new.log other)
        → GoesWell honest moment left_since old.log new.log
    well_writes steps.Idle writes moments = elim writes [ ]
    well_writes steps.Done writes moments = well-takes writes (moments entry (inl writes.history))
    well_writes steps.DiskFault writes moments =
        well-marked writes (moments entry (inr (writes.may.0, writes.stopped, writes.marked)))
    well_writes (steps.Stopped count) writes moments = well_none old.log new.log writes.2.0
    well_writes (steps.Full commands size) writes moments = well_none old.log new.log writes.4.0
    well_writes steps.NoMemory writes moments = well_none old.log new.log writes.0

  module _ {G : Type 0} (fault_count : D → ℕ) (old new : LaneValue D G) (today : ℕ)
      (lanes : new.log.journal.lanes ≡ old.log.journal.lanes)
      (lane : new.log.journal.lane ≡ old.log.journal.lane) where
    -- one that writes a command, if there is one
    pub well_accepts : (command : Option Command) (step : Step)
        → Accepts fault_count old new today command step
        → ((other : Entry) → IsWritten old.log new.log other
        → StandsThroughout honest moment left_since old.log new.log other)
        → GoesWell honest moment left_since old.log new.log
    well_accepts None step accepts moments = well_none old.log new.log accepts.1.0
    well_accepts (Some command) step accepts moments =
        well_writes fault_count old new (today, command) lanes lane step accepts moments

    -- a command that is performed
    pub well_performs : (command : Command) (reply : LaneReply)
        → Performs fault_count old new today command reply
        → (is_new (judged (machine_of old) today command) ≡ true → (reply ≡ replies.NoMemory → ⊥)
        → StandsThroughout honest moment left_since old.log new.log (today, command))
        → GoesWell honest moment left_since old.log new.log
    well_performs command reply performs moments =
        elim (cases_Bool (is_taken (judged (machine_of old) today command) reply)) [
          | inl taken ↦ well-takes fault_count old new (today, command) lanes lane (performs.taken taken)
              (moments (taken-new _ reply taken) (λ memory. taken-memory _ reply taken memory))
          | inr untaken ↦ by_fault reply performs moments untaken
        ]
      where
        taken-new : (told : Judged LaneReply MachineValue) (reply : LaneReply) → is_taken told reply ≡ true
            → is_new told ≡ true
        taken-new told reply taken = (and_parts (is_new told) (is_accepted reply) taken).0

        taken-memory : (told : Judged LaneReply MachineValue) (reply : LaneReply) → is_taken told reply ≡ true
            → reply ≡ replies.NoMemory → ⊥
        taken-memory told reply taken memory = absurd (true≢false
            (sym taken ∙ ap (is_taken told) memory ∙ none (is_new told)))
          where
            none : (one : Bool) → (one && false) ≡ false
            none true = refl
            none false = refl

        by_fault : (reply : LaneReply) → Performs fault_count old new today command reply
            → (is_new (judged (machine_of old) today command) ≡ true → (reply ≡ replies.NoMemory → ⊥)
            → StandsThroughout honest moment left_since old.log new.log (today, command))
            → is_taken (judged (machine_of old) today command) reply ≡ false
            → GoesWell honest moment left_since old.log new.log
        by_fault replies.DiskFault performs moments untaken =
            well-marked fault_count old new (today, command) lanes lane (performs.fault refl)
            (moments performs.told (λ same. absurd (cc)))
        by_fault (replies.Accepted answer) performs moments untaken =
            well_none old.log new.log (ap (λ lane. lane.log) (performs.untaken untaken (λ same. absurd (cc))))
        by_fault (replies.Version number) performs moments untaken =
            well_none old.log new.log (ap (λ lane. lane.log) (performs.untaken untaken (λ same. absurd (cc))))
        by_fault (replies.States number) performs moments untaken =
            well_none old.log new.log (ap (λ lane. lane.log) (performs.untaken untaken (λ same. absurd (cc))))
        by_fault (replies.Refused refusal) performs moments untaken =
            well_none old.log new.log (ap (λ lane. lane.log) (performs.untaken untaken (λ same. absurd (cc))))
        by_fault (replies.Stopped count) performs moments untaken =
            well_none old.log new.log (ap (λ lane. lane.log) (performs.untaken untaken (λ same. absurd (cc))))
        by_fault (replies.Full commands size) performs moments untaken =
            well_none old.log new.log (ap (λ lane. lane.log) (performs.untaken untaken (λ same. absurd (cc))))
        by_fault replies.NoMemory performs moments untaken =
            well_none old.log new.log (ap (λ lane. lane.log) (performs.untaken untaken (λ same. absurd (cc))))

-- what no call changes, over two of them
pub itself_then : {D G : Type 0} (honest : D → Bool) (fault_count : D → ℕ) (old between new : LaneValue D G)
    → StaysItself honest fault_count old between → StaysItself honest fault_count between new
    → StaysItself honest fault_count old new
itself_then honest fault_count old between new first second = record {
  lanes = second.lanes ∙ first.lanes;
  lane = second.lane ∙ first.lane;
  opened = second.opened ∙ first.opened;
  faults = second.faults ∙ first.faults;
  as_honest = second.as_honest ∙ first.as_honest;
  rising = omega (arith, first.rising, second.rising);
}
