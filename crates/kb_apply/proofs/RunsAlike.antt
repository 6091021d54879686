-- Lanes that are alike answer the same lines alike, where nothing fails and their gateways say the same.
use Rattle.std.specs.Prelude.{◌||◌}
use Rattle.std.proofs.Common.{◌≡◌, ◌≢◌, ℕ, zero, suc, ◌+◌, ◌-◌, ◌⊎◌, inl, inr, Bool, true, false, List, [], ◌∷◌}
use Rattle.std.proofs.Common.{◌++◌, IsSome, IfSome, length, set, Option, None, Some, Result, Ok, Err, refl, sym, ap}
use Rattle.std.proofs.Common.{subst, ◌∙◌, true≢false}
use Rattle.std.specs.List.{slice_get}
use Rattle.kb_base.specs.Lines.{line_feed}
use Rattle.kb_base.specs.Machine.{IsRun}
use Rattle.kb_book.specs.declared.refusal.Refusal.{Refusal}
use Rattle.kb_book.specs.declared.reply.LaneReply.{LaneReply}
use Rattle.kb_book.specs.declared.reply.LaneReply.TheVariants as replies
use Rattle.kb_book.specs.declared.step.Step.{Step}
use Rattle.kb_book.specs.declared.step.Step.TheVariants as steps
use Rattle.kb_book.specs.declared.views.View.{View}
use Rattle.kb_codec.specs.Senders.{is_text, account_of}
use Rattle.kb_codec.specs.declared.command.Command.{Command}
use Rattle.kb_json.specs.Answers.{say}
use Rattle.kb_json.specs.Asked.{IsAsked}
use Rattle.kb_json.specs.Requests.{ask}
use Rattle.kb_json.specs.Telling.{Says}
use Rattle.kb_json.specs.declared.fault.RequestFault.{RequestFault}
use Rattle.kb_json.specs.declared.fault.RequestFault.TheVariants as faults
use Rattle.kb_json.specs.declared.request.Request.{Request}
use Rattle.kb_json.specs.declared.request.What.{What}
use Rattle.kb_json.specs.declared.request.What.TheVariants as whats
use Rattle.kb_json.specs.declared.said.Said.{Said}
use Rattle.kb_json.specs.declared.said.Said.TheVariants as says
use Rattle.kb_lane.specs.Lanes.{LaneValue, machine_of}
use Rattle.kb_lane.specs.Reading.{asked_account, view_of}
use Rattle.kb_machine.specs.Histories.{replay}
use Rattle.kb_ports.specs.NamedDays.{IsDayOf}
use Rattle.kb_desk.specs.Lanes.{lane_of}
use Rattle.kb_desk.specs.Places.{GoesAt, is_taken_text}
use Rattle.kb_apply.specs.Addressed.{account_on, first_lane, lanes_on}
use Rattle.kb_apply.specs.Determined.{AllSaidAlike, AreAlike, HadMemory, IsAlike, OnSameDays, SaidAlike}
use Rattle.kb_apply.specs.Determined.{RunsAreDetermined, memory_line}
use Rattle.kb_apply.specs.LaneRuns.{Answers, DrainFrom, DrainsAt, IsShown, IsShownAt, LanesValue, LookUpFrom}
use Rattle.kb_apply.specs.LaneRuns.{LooksUpAt, Outside, PerformsAt, Serves, ServesCommand, TextFrom, lanes_machine}
use Rattle.kb_apply.proofs.EachLane.{set_length}
use Rattle.kb_apply.proofs.Found.{none_stopped}
use Rattle.kb_apply.proofs.LanesAlike.{drains_alike, looks_all_alike, performs_alike}
use Rattle.kb_apply.proofs.Later.{GoLater, GoesLater, later_over}
use Rattle.kb_apply.proofs.OverRuns.{IsOverSteps, answer_over, drain_over, look_up_over, run_over, text_over}

-- what stands in a list of which one item was set
found_set : {A : Type 0} (items : List A) (place other : ℕ) (next found : A)
    → slice_get (set items place next) other ≡ Some found
    → ((other ≡ place) × (found ≡ next)) ⊎ ((other ≡ place → ⊥) × (slice_get items other ≡ Some found))
found_set [] place other next found is = absurd (cc)
found_set (first ∷ later) zero zero next found is = inl (refl, cc)
found_set (first ∷ later) zero (suc other) next found is = inr (λ same. cc, is)
found_set (first ∷ later) (suc place) zero next found is = inr (λ same. cc, is)
found_set (first ∷ later) (suc place) (suc other) next found is = elim (found_set later place other next found is) [
  | inl same ↦ inl (ap suc same.0, same.1)
  | inr apart ↦ inr (λ same. apart.0 (cc), apart.1)
]

-- the flag that a lane had no room stays down, so nothing told puts it up
stays_down : (before told after : Bool) → after ≡ (before || told) → after ≡ false → told ≡ false
stays_down true told after is down = absurd (true≢false (sym is ∙ down))
stays_down false told after is down = sym is ∙ down

module _ {D G C : Type 0} (outside : Outside D G C) (last end : LanesValue D G C)
    (running : (place : ℕ) (lane : LaneValue D G) → slice_get last.lanes place ≡ Some lane
    → lane.log.journal.stopped ≡ false)
    (running_too : (place : ℕ) (lane : LaneValue D G) → slice_get end.lanes place ≡ Some lane
    → lane.log.journal.stopped ≡ false)
    (room : last.full ≡ false) (room_too : end.full ≡ false)
    (ends : AllSaidAlike outside.gateways last.lanes end.lanes) where
  abbrev Alike : LanesValue D G C → LanesValue D G C → Type 0
  Alike lanes others = AreAlike outside.gateways lanes.lanes others.lanes

  abbrev Later : LanesValue D G C → LanesValue D G C → Type 0
  Later = GoLater outside

  later_over_then : (one two three : LanesValue D G C) → Later one two → Later two three → Later one three
  later_over_then = (later_over outside).both

  down : (lanes final : LanesValue D G C) → final.full ≡ false → Later lanes final → lanes.full ≡ false
  down lanes final final_down later = by_flag lanes.full refl
    where
      by_flag : (full : Bool) → lanes.full ≡ full → lanes.full ≡ false
      by_flag false is = is
      by_flag true is = absurd (true≢false (sym (later.full is) ∙ final_down))

  -- One lane of each is gone on with: the lanes at the place were alike, and go on to the last ones; and if
  -- they are alike then, all are.
  one_alike : (Does Does_too : LaneValue D G → LaneValue D G → Type 0) (place : ℕ)
      (old new other after : LanesValue D G C) → Alike old other → GoesAt Does place old.lanes new.lanes
      → GoesAt Does_too place other.lanes after.lanes → Later new last → Later after end
      → (Result : Type 0)
      → ((lane beside next then final finish : LaneValue D G) → IsAlike outside.gateways lane beside
      → Does lane next → Does_too beside then → GoesLater outside.gateways next final
      → GoesLater outside.gateways then finish → final.log.journal.stopped ≡ false
      → finish.log.journal.stopped ≡ false → SaidAlike outside.gateways final.gateway finish.gateway
      → Result × IsAlike outside.gateways next then)
      → Result × Alike new after
  one_alike Does Does_too place old new other after alike (lane, next, is, set_to, does)
      (beside, then, is_too, set_too, does_too) later later_too Result step = (
        stepped.0,
        record {
          count = ap length set_to ∙ set_length old.lanes place next ∙ alike.count
              ∙ sym (set_length other.lanes place then) ∙ sym (ap length set_too);
          each = λ at one two one_is two_is. by_places at one two
              (found_set old.lanes place at next one (sym (ap (λ items. slice_get items at) set_to) ∙ one_is))
              (found_set other.lanes place at then two (sym (ap (λ items. slice_get items at) set_too) ∙ two_is));
        },
      )
    where
      there : {A : Type 0} (items : List A) (at : ℕ) (item next : A) → slice_get items at ≡ Some item
          → slice_get (set items at next) at ≡ Some next
      there [] at item next is = absurd (cc)
      there (first ∷ later) zero item next is = refl
      there (first ∷ later) (suc at) item next is = there later at item next is

      next_there : slice_get new.lanes place ≡ Some next
      next_there = ap (λ items. slice_get items place) set_to ∙ there old.lanes place lane next is

      then_there : slice_get after.lanes place ≡ Some then
      then_there = ap (λ items. slice_get items place) set_too ∙ there other.lanes place beside then is_too

      final : (final : LaneValue D G) × (slice_get last.lanes place ≡ Some final)
          × GoesLater outside.gateways next final
      final = later.lanes.each place next next_there

      finish : (finish : LaneValue D G) × (slice_get end.lanes place ≡ Some finish)
          × GoesLater outside.gateways then finish
      finish = later_too.lanes.each place then then_there

      stepped : Result × IsAlike outside.gateways next then
      stepped = step lane beside next then final.0 finish.0 (alike.each place lane beside is is_too) does does_too
          final.2 finish.2 (running place final.0 final.1) (running_too place finish.0 finish.1)
          (ends place final.0 finish.0 final.1 finish.1)

      by_places : (at : ℕ) (one two : LaneValue D G)
          → (((at ≡ place) × (one ≡ next)) ⊎ ((at ≡ place → ⊥) × (slice_get old.lanes at ≡ Some one)))
          → (((at ≡ place) × (two ≡ then)) ⊎ ((at ≡ place → ⊥) × (slice_get other.lanes at ≡ Some two)))
          → IsAlike outside.gateways one two
      by_places at one two (inl same) (inl too) = rw (same.1, too.1) stepped.1
      by_places at one two (inl same) (inr apart) = absurd (apart.0 same.0)
      by_places at one two (inr apart) (inl same) = absurd (apart.0 same.0)
      by_places at one two (inr apart) (inr too) = alike.each at one two apart.1 too.1

  -- a command is performed
  performs : (today : ℕ) (command : Command) (place : ℕ) (old new other after : LanesValue D G C)
      (reply told : LaneReply) → Alike old other → PerformsAt outside today command place old new reply
      → PerformsAt outside today command place other after told → Later new last → Later after end
      → (reply ≡ replies.NoMemory → ⊥) → (told ≡ replies.NoMemory → ⊥) → (reply ≡ told) × Alike new after
  performs today command place old new other after reply told alike does does_too later later_too memory memory_too =
      one_alike _ _ place old new other after alike does.0 does_too.0 later later_too (reply ≡ told)
      (λ lane beside next then final finish same one two goes goes_too runs runs_too said.
      performs_alike outside final finish runs runs_too said today command lane beside next then reply told same one.0
      two.0 goes goes_too (stays_down old.full _ new.full does.2 (down new last room later))
      (stays_down other.full _ after.full does_too.2 (down after end room_too later_too)) memory memory_too)

  -- open payments are looked up
  looks_up : (today place : ℕ) (old new other after : LanesValue D G C) (step told : Step) → Alike old other
      → LooksUpAt outside today place old new step → LooksUpAt outside today place other after told
      → Later new last → Later after end → (step ≡ steps.NoMemory → ⊥) → (told ≡ steps.NoMemory → ⊥)
      → (step ≡ told) × Alike new after
  looks_up today place old new other after step told alike does does_too later later_too memory memory_too =
      one_alike _ _ place old new other after alike does.0 does_too.0 later later_too (step ≡ told)
      (λ lane beside next then final finish same one two goes goes_too runs runs_too said.
      looks_all_alike outside final finish runs runs_too said today lane beside next then step told same one.0 two.0
      goes goes_too (stays_down old.full _ new.full does.2 (down new last room later))
      (stays_down other.full _ after.full does_too.2 (down after end room_too later_too)) memory memory_too)

  -- an outbox is drained
  drains : (today place : ℕ) (old new other after : LanesValue D G C) (step told : Step) → Alike old other
      → DrainsAt outside today place old new step → DrainsAt outside today place other after told
      → Later new last → Later after end → (step ≡ steps.NoMemory → ⊥) → (told ≡ steps.NoMemory → ⊥)
      → Alike new after
  drains today place old new other after step told alike does does_too later later_too memory memory_too =
      (one_alike _ _ place old new other after alike does.0 does_too.0 later later_too (Unit {0})
      (λ lane beside next then final finish same one two goes goes_too runs runs_too said. (
        tt,
        drains_alike outside final finish runs runs_too said today one.0.0 two.0.0 lane beside next then step told
            same one.0.2 two.0.2 goes goes_too (stays_down old.full _ new.full does.2 (down new last room later))
            (stays_down other.full _ after.full does_too.2 (down after end room_too later_too)) memory memory_too,
      ))).1

  taken_memory : (reply : LaneReply) → is_taken_text reply ≡ true → reply ≡ replies.NoMemory → ⊥
  taken_memory reply taken is = true≢false (sym taken ∙ ap is_taken_text is)

  done_memory : steps.Done ≡ steps.NoMemory → ⊥
  done_memory is = cc

  -- a text goes to the lanes
  texts : (today : ℕ) (command : Command) (place more : ℕ) (old new other after : LanesValue D G C)
      (reply told : LaneReply) → Alike old other → TextFrom outside today command place more old new reply
      → TextFrom outside today command place more other after told → Later new last → Later after end
      → (reply ≡ replies.NoMemory → ⊥) → (told ≡ replies.NoMemory → ⊥) → (reply ≡ told) × Alike new after
  texts today command place zero old new other after reply told alike does does_too later later_too memory memory_too =
      performs today command place old new other after reply told alike does does_too later later_too memory
      memory_too
  texts today command place (suc more) old new other after reply told alike (inl does) (inl too) later later_too memory
      memory_too =
      performs today command place old new other after reply told alike does.0 too.0 later later_too memory
      memory_too
  texts today command place (suc more) old new other after reply told alike (inl does)
      (inr (middle, second, performs_too, taken_too, rest)) later later_too memory memory_too =
      let from_too = later_over_then middle after end
      (text_over outside (GoLater outside) (later_over outside) today command (place + 1) more middle after told
      rest) later_too in
      let same = performs today command place old new other middle reply second alike does.0 performs_too later
      from_too memory (taken_memory second taken_too) in
      absurd (true≢false (sym taken_too ∙ ap is_taken_text (sym same.0) ∙ does.1))
  texts today command place (suc more) old new other after reply told alike
      (inr (between, first, performs_one, taken, later_text)) (inl too) later later_too memory memory_too =
      let from = later_over_then between new last
      (text_over outside (GoLater outside) (later_over outside) today command (place + 1) more between new reply
      later_text) later in
      let same = performs today command place old between other after first told alike performs_one too.0 from
      later_too (taken_memory first taken) memory_too in
      absurd (true≢false (sym taken ∙ ap is_taken_text same.0 ∙ too.1))
  texts today command place (suc more) old new other after reply told alike
      (inr (between, first, performs_one, taken, later_text)) (inr (middle, second, performs_too, taken_too, rest))
      later later_too memory memory_too =
      let from = later_over_then between new last
      (text_over outside (GoLater outside) (later_over outside) today command (place + 1) more between new reply
      later_text) later in
      let from_too = later_over_then middle after end
      (text_over outside (GoLater outside) (later_over outside) today command (place + 1) more middle after told
      rest) later_too in
      let same = performs today command place old between other middle first second alike performs_one performs_too
      from from_too (taken_memory first taken) (taken_memory second taken_too) in
      texts today command (place + 1) more between new middle after reply told same.1 later_text rest later later_too
      memory memory_too

  -- all lanes look their open payments up
  look_ups : (today place more : ℕ) (old new other after : LanesValue D G C) (step told : Step) → Alike old other
      → LookUpFrom outside today place more old new step → LookUpFrom outside today place more other after told
      → Later new last → Later after end → (step ≡ steps.NoMemory → ⊥) → (told ≡ steps.NoMemory → ⊥)
      → (step ≡ told) × Alike new after
  look_ups today place zero old new other after step told alike does too later later_too memory memory_too =
      (does.1 ∙ sym too.1, rw (does.0, too.0) alike)
  look_ups today place (suc more) old new other after step told alike (inl does) (inl too) later later_too memory
      memory_too =
      looks_up today place old new other after step told alike does.0 too.0 later later_too memory memory_too
  look_ups today place (suc more) old new other after step told alike (inl does) (inr (middle, second, rest)) later
      later_too memory memory_too =
      let from_too = later_over_then middle after end
      (look_up_over outside (GoLater outside) (later_over outside) today (place + 1) more middle after told rest)
      later_too in
      let same = looks_up today place old new other middle step steps.Done alike does.0 second later from_too memory
      done_memory in
      absurd (does.1 same.0)
  look_ups today place (suc more) old new other after step told alike (inr (between, first, later_ones)) (inl too)
      later later_too memory memory_too =
      let from = later_over_then between new last
      (look_up_over outside (GoLater outside) (later_over outside) today (place + 1) more between new step
      later_ones) later in
      let same = looks_up today place old between other after steps.Done told alike first too.0 from later_too
      done_memory memory_too in
      absurd (too.1 (sym same.0))
  look_ups today place (suc more) old new other after step told alike (inr (between, first, later_ones))
      (inr (middle, second, rest)) later later_too memory memory_too =
      let from = later_over_then between new last
      (look_up_over outside (GoLater outside) (later_over outside) today (place + 1) more between new step
      later_ones) later in
      let from_too = later_over_then middle after end
      (look_up_over outside (GoLater outside) (later_over outside) today (place + 1) more middle after told rest)
      later_too in
      let same = looks_up today place old between other middle steps.Done steps.Done alike first second from from_too
      done_memory done_memory in
      look_ups today (place + 1) more between new middle after step told same.1 later_ones rest later later_too memory
      memory_too

  -- outboxes are drained
  drained : (today place more : ℕ) (old new other after : LanesValue D G C) → Alike old other
      → DrainFrom outside today place more old new → DrainFrom outside today place more other after
      → Later new last → Later after end → Alike new after
  drained today place zero old new other after alike does too later later_too = rw (does, too) alike
  drained today place (suc more) old new other after alike (between, step, first, memory, later_ones)
      (middle, told, second, memory_too, rest) later later_too =
      let from = later_over_then between new last
      (drain_over outside (GoLater outside) (later_over outside) today (place + 1) more between new later_ones)
      later in
      let from_too = later_over_then middle after end
      (drain_over outside (GoLater outside) (later_over outside) today (place + 1) more middle after rest)
      later_too in
      drained today (place + 1) more between new middle after (drains today place old between other middle step told
      alike first second from from_too memory memory_too) later_ones rest later later_too

  -- a command is served
  commands : (today : ℕ) (command : Command) (text_or_not : Bool) (old new other after : LanesValue D G C)
      (reply told : LaneReply) → Alike old other → ServesCommand outside today command text_or_not old new reply
      → ServesCommand outside today command text_or_not other after told → Later new last → Later after end
      → (reply ≡ replies.NoMemory → ⊥) → (told ≡ replies.NoMemory → ⊥) → (reply ≡ told) × Alike new after
  commands today command true old new other after reply told alike does too later later_too memory memory_too =
      texts today command 0 (length old.lanes - 1) old new other after reply told alike does
      (subst (λ count. TextFrom outside today command 0 (count - 1) other after told) (sym alike.count) too) later
      later_too memory memory_too
  commands today command false old new other after reply told alike does too later later_too memory memory_too =
      performs today command (lane_of (account_of command) (length old.lanes)) old new other after reply told alike does
      (subst (λ count. PerformsAt outside today command (lane_of (account_of command) count) other after told)
      (sym alike.count) too) later later_too memory memory_too

  -- A query is shown what its lane has.
  shown_is : (told : Result View Refusal) (spoken : Said) → IsShown told spoken
      → (spoken ≡ says.Fault faults.NoMemory → ⊥)
      → ((view : View) × (told ≡ Ok view) × (spoken ≡ says.View view))
      ⊎ ((refusal : Refusal) × (told ≡ Err refusal) × (spoken ≡ says.Refused refusal))
  shown_is (Ok view) (says.View shown) is memory = inl (view, refl, ap says.View is)
  shown_is (Ok view) (says.Reply reply) is memory = elim is [ ]
  shown_is (Ok view) (says.Refused refusal) is memory = elim is [ ]
  shown_is (Ok view) (says.Janitor step) is memory = elim is [ ]
  shown_is (Ok view) (says.Fault faults.NoMemory) is memory = absurd (memory refl)
  shown_is (Ok view) (says.Fault (faults.Json fault)) is memory = elim is [ ]
  shown_is (Ok view) (says.Fault faults.BadName) is memory = elim is [ ]
  shown_is (Ok view) (says.Fault faults.BadDate) is memory = elim is [ ]
  shown_is (Ok view) (says.Fault (faults.Text fault)) is memory = elim is [ ]
  shown_is (Err refusal) (says.Refused refused) is memory = inr (refusal, refl, ap says.Refused is)
  shown_is (Err refusal) (says.Reply reply) is memory = elim is [ ]
  shown_is (Err refusal) (says.View shown) is memory = elim is [ ]
  shown_is (Err refusal) (says.Janitor step) is memory = elim is [ ]
  shown_is (Err refusal) (says.Fault faults.NoMemory) is memory = absurd (memory refl)
  shown_is (Err refusal) (says.Fault (faults.Json fault)) is memory = elim is [ ]
  shown_is (Err refusal) (says.Fault faults.BadName) is memory = elim is [ ]
  shown_is (Err refusal) (says.Fault faults.BadDate) is memory = elim is [ ]
  shown_is (Err refusal) (says.Fault (faults.Text fault)) is memory = elim is [ ]

  shown_alike : (told : Result View Refusal) (one two : Said) → IsShown told one → IsShown told two
      → (one ≡ says.Fault faults.NoMemory → ⊥) → (two ≡ says.Fault faults.NoMemory → ⊥) → one ≡ two
  shown_alike told one two is too memory memory_too = by_both (shown_is told one is memory) (shown_is told two too
      memory_too)
    where
      by_both : ((view : View) × (told ≡ Ok view) × (one ≡ says.View view))
          ⊎ ((refusal : Refusal) × (told ≡ Err refusal) × (one ≡ says.Refused refusal))
          → ((view : View) × (told ≡ Ok view) × (two ≡ says.View view))
          ⊎ ((refusal : Refusal) × (told ≡ Err refusal) × (two ≡ says.Refused refusal)) → one ≡ two
      by_both (inl (view, told_is, one_is)) (inl (other, told_too, two_is)) =
          let same : view ≡ other = by_ok (sym told_is ∙ told_too) in one_is ∙ ap says.View same ∙ sym two_is
        where
          by_ok : ◌≡◌ {A = Result View Refusal} (Ok view) (Ok other) → view ≡ other
          by_ok same = cc
      by_both (inl (view, told_is, one_is)) (inr (refusal, told_too, two_is)) = absurd (by_kind (sym told_is ∙ told_too))
        where
          by_kind : ◌≡◌ {A = Result View Refusal} (Ok view) (Err refusal) → ⊥
          by_kind same = cc
      by_both (inr (refusal, told_is, one_is)) (inl (view, told_too, two_is)) = absurd (by_kind (sym told_too ∙ told_is))
        where
          by_kind : ◌≡◌ {A = Result View Refusal} (Ok view) (Err refusal) → ⊥
          by_kind same = cc
      by_both (inr (refusal, told_is, one_is)) (inr (other, told_too, two_is)) =
          let same : refusal ≡ other = by_err (sym told_is ∙ told_too) in one_is ∙ ap says.Refused same ∙ sym two_is
        where
          by_err : ◌≡◌ {A = Result View Refusal} (Err refusal) (Err other) → refusal ≡ other
          by_err same = cc

  -- what is said by another line than that of want of memory isn't told for want of it
  abbrev IsClear : Said → Type 0
  IsClear spoken = say spoken ≢ say (says.Fault faults.NoMemory)

  -- what a request does, and what is said to it
  serves : (today : ℕ) (what : What) (old new other after : LanesValue D G C) (spoken told : Said) → Alike old other
      → Serves outside today what old new spoken → Serves outside today what other after told → Later new last
      → Later after end → IsClear spoken → IsClear told → (spoken ≡ told) × Alike new after
  serves today (whats.Command command) old new other after spoken told alike (reply, is, does) (reply_too, is_too, too)
      later later_too clear clear_too =
      let done = commands today command (is_text command) old new other after reply reply_too alike does too later
      later_too (λ memory. clear (rw (is, memory) refl)) (λ memory. clear_too (rw (is_too, memory) refl)) in
      (is ∙ ap says.Reply done.0 ∙ sym is_too, done.1)
  serves today (whats.Query query) old new other after spoken told alike does too later later_too clear clear_too =
      (same_said, rw (does.1, too.1) alike)
    where
      place : ℕ
      place = lane_of (asked_account query) (length old.lanes)

      shown_too : IsShownAt today query place other.lanes told
      shown_too = subst (λ count. IsShownAt today query (lane_of (asked_account query) count) other.lanes told)
          (sym alike.count) too.0

      same_view : view_of (machine_of does.0.0) today query ≡ view_of (machine_of shown_too.0) today query
      same_view = ap (λ history. view_of (replay history) today query)
          (alike.each place does.0.0 shown_too.0 does.0.1 shown_too.1).history

      same_said : spoken ≡ told
      same_said = shown_alike (view_of (machine_of does.0.0) today query) spoken told does.0.2
          (subst (λ view. IsShown view told) (sym same_view) shown_too.2)
          (λ memory. clear (ap say memory)) (λ memory. clear_too (ap say memory))
  serves today whats.Janitor old new other after spoken told alike (step, is, does) (step_too, is_too, too) later
      later_too clear clear_too =
      let done = look_ups today 0 (length old.lanes) old new other after step step_too alike does
      (subst (λ count. LookUpFrom outside today 0 count other after step_too) (sym alike.count) too) later later_too
      (λ memory. clear (rw (is, memory) refl)) (λ memory. clear_too (rw (is_too, memory) refl)) in
      (is ∙ ap says.Janitor done.0 ∙ sym is_too, done.1)

  -- the line that says it, where memory didn't run out
  said_line : (spoken : Said) (text : List ℕ) → Says spoken text → text ≢ memory_line
      → (text ≡ say spoken ++ line_feed ∷ []) × IsClear spoken
  said_line spoken text (inl is) memory =
      (is, λ same. memory (is ∙ ap (λ (line : List ℕ). line ++ line_feed ∷ []) same))
  said_line spoken text (inr is) memory = absurd (memory is.1)

  -- a line is answered
  answers : (old new other after : LanesValue D G C) (request : Request) (text told : List ℕ) → Alike old other
      → ((today today_too : ℕ) → IsDayOf outside.day old.clock request.today today
      → IsDayOf outside.day other.clock request.today today_too → today ≡ today_too)
      → Answers outside old (Ok request) text new → Answers outside other (Ok request) told after
      → Later new last → Later after end → text ≢ memory_line → told ≢ memory_line → (text ≡ told) × Alike new after
  answers old new other after request text told alike days (today, served, spoken, day, does, says_it, later_drains)
      (today_too, served_too, spoken_too, day_too, too, says_too, drains_too) later later_too memory memory_too = (
        line.0 ∙ ap (λ said. say said ++ line_feed ∷ []) served_alike.0 ∙ sym line_too.0,
        drained today _ _ served new
            served_too after served_alike.1 later_drains drains_same later later_too,
      )
    where
      same_day : today_too ≡ today
      same_day = sym (days today today_too day day_too)

      line : (text ≡ say spoken ++ line_feed ∷ []) × IsClear spoken
      line = said_line spoken text says_it memory

      line_too : (told ≡ say spoken_too ++ line_feed ∷ []) × IsClear spoken_too
      line_too = said_line spoken_too told says_too memory_too

      from : Later served last
      from = later_over_then served new last
          (drain_over outside (GoLater outside) (later_over outside) today _ _ served new later_drains) later

      from_too : Later served_too end
      from_too = later_over_then served_too after end
          (drain_over outside (GoLater outside) (later_over outside) today_too _ _ served_too after drains_too)
          later_too

      served_alike : (spoken ≡ spoken_too) × Alike served served_too
      served_alike = serves today request.what old served other served_too spoken spoken_too alike does
          (subst (λ day. Serves outside day request.what other served_too spoken_too) same_day too) from from_too line.1
          line_too.1

      drains_same : DrainFrom outside today (first_lane (length old.lanes) (account_on request.what))
          (lanes_on (length old.lanes) (account_on request.what)) served_too after
      drains_same = subst (λ count. DrainFrom outside today (first_lane count (account_on request.what))
          (lanes_on count (account_on request.what)) served_too after) (sym alike.count)
          (subst (λ day. DrainFrom outside day (first_lane (length other.lanes) (account_on request.what))
          (lanes_on (length other.lanes) (account_on request.what)) served_too after) same_day drains_too)

  -- a line is read alike, where memory didn't run out
  abbrev StepOf : LanesValue D G C → List ℕ → List ℕ → LanesValue D G C → Type 0
  StepOf old line text new = (read : Result Request RequestFault) × IsAsked read (ask true line)
      × Answers outside old read text new

  read_is : (old : LanesValue D G C) (line text : List ℕ) (new : LanesValue D G C) (step : StepOf old line text new)
      → text ≢ memory_line → ask true line ≡ step.0
  read_is old line text new (Ok request, asked, answers) memory = asked
  read_is old line text new (Err fault, asked, answers) memory = asked (λ is.
      (said_line (says.Fault fault) text answers.0 memory).1 (ap (λ f. say (says.Fault f)) is))

  answered : (old new other after : LanesValue D G C) (line text told : List ℕ)
      (read read_too : Result Request RequestFault) → Alike old other
      → OnSameDays outside.day old.clock other.clock (line ∷ []) → ask true line ≡ read → read_too ≡ read
      → Answers outside old read text new → Answers outside other read_too told after → Later new last
      → Later after end → text ≢ memory_line → told ≢ memory_line → (text ≡ told) × Alike new after
  answered old new other after line text told (Ok request) (Ok too) alike days is same first second later later_too
      memory memory_too =
      let requested : too ≡ request = cc in
      answers old new other after request text told alike by_day first
      (subst (λ asked. Answers outside other (Ok asked) told after) requested second) later later_too memory memory_too
    where
      told_day : (clock : C) (day today : ℕ) → outside.day clock ≡ Some day
          → IfSome (outside.day clock) (λ given. today ≡ given) → today ≡ day
      told_day clock day today is given = subst (λ told. IfSome told (λ g. today ≡ g)) is given

      by_named : (named : Option ℕ) → request.today ≡ named → (today today_too : ℕ)
          → IsDayOf outside.day old.clock named today → IsDayOf outside.day other.clock named today_too
          → today ≡ today_too
      by_named (Some named) named_is today today_too one two = one ∙ sym two
      by_named None named_is today today_too one two = elim days [
        | inl all ↦ absurd (true≢false (sym (subst (λ (o : Option ℕ). IsSome o) named_is (all.0 request is))))
        | inr clocks ↦ told_day old.clock clocks.0 today clocks.1 one.2
            ∙ sym (told_day other.clock clocks.0 today_too clocks.2 two.2)
      ]

      by_day : (today today_too : ℕ) → IsDayOf outside.day old.clock request.today today
          → IsDayOf outside.day other.clock request.today today_too → today ≡ today_too
      by_day = by_named request.today refl
  answered old new other after line text told (Err fault) (Err too) alike days is same first second later later_too
      memory memory_too =
      let faulted : too ≡ fault = cc in
      let one = said_line (says.Fault fault) text first.0 memory in
      let two = said_line (says.Fault too) told second.0 memory_too in
      (one.0 ∙ ap (λ f. say (says.Fault f) ++ line_feed ∷ []) (sym faulted) ∙ sym two.0, rw (first.1, second.1) alike)
  answered old new other after line text told (Ok request) (Err too) alike days is same first second later later_too
      memory memory_too = absurd (cc)
  answered old new other after line text told (Err fault) (Ok too) alike days is same first second later later_too
      memory memory_too = absurd (cc)

  -- the clock stays as it is
  clock_over : IsOverSteps outside (λ old new. new.clock ≡ old.clock)
  clock_over = record {
    none = λ lanes. refl;
    both = λ old middle new first second. second ∙ first;
    performs = λ today command place old new reply does. does.1;
    looks_up = λ today place old new step does. does.1;
    drains = λ today place old new step does. does.1;
  }

  -- the days of the first line, and of those behind it
  first_days : (one other : C) (line : List ℕ) (lines : List (List ℕ))
      → OnSameDays outside.day one other (line ∷ lines) → OnSameDays outside.day one other (line ∷ [])
  first_days one other line lines (inl all) = inl (all.0, tt)
  first_days one other line lines (inr clocks) = inr clocks

  later_days : (one other next after : C) (line : List ℕ) (lines : List (List ℕ)) → next ≡ one → after ≡ other
      → OnSameDays outside.day one other (line ∷ lines) → OnSameDays outside.day next after lines
  later_days one other next after line lines same still (inl all) = inl all.1
  later_days one other next after line lines same still (inr clocks) =
      inr (clocks.0, ap outside.day same ∙ clocks.1, ap outside.day still ∙ clocks.2)

  pub runs_alike : (lines : List (List ℕ)) (first other : LanesValue D G C) (text told : List ℕ) → Alike first other
      → OnSameDays outside.day first.clock other.clock lines
      → (ran : IsRun (lanes_machine outside) first lines text last) → HadMemory outside first lines text last ran
      → (too : IsRun (lanes_machine outside) other lines told end) → HadMemory outside other lines told end too
      → (text ≡ told) × Alike last end
  runs_alike [] first other text told alike days ran memory too memory_too = (
    ran.0 ∙ sym too.0,
    subst (λ (l : LanesValue D G C). AreAlike outside.gateways l.lanes end.lanes) (sym ran.1)
        (subst (λ (e : LanesValue D G C). AreAlike outside.gateways first.lanes e.lanes) (sym too.1) alike),
  )
  runs_alike (line ∷ lines) first other text told alike days (said, more, next, step, parts, ran) memory
      (said_too, more_too, after, step_too, parts_too, too) memory_too =
      let is = read_is first line said next step memory.0 in
      let is_too = read_is other line said_too after step_too memory_too.0 in
      let here = answered first next other after line said said_too step.0 step_too.0 alike
      (first_days first.clock other.clock line lines days) is (sym is_too ∙ is) step.2 step_too.2
      (run_over outside (GoLater outside) (later_over outside) lines next last more ran)
      (run_over outside (GoLater outside) (later_over outside) lines after end more_too too) memory.0
      memory_too.0 in
      let clock = answer_over outside (λ old new. new.clock ≡ old.clock) clock_over first next step.0 said step.2 in
      let clock_too = answer_over outside (λ old new. new.clock ≡ old.clock) clock_over other after step_too.0 said_too
      step_too.2 in
      let rest = runs_alike lines next after more more_too here.1
      (later_days first.clock other.clock next.clock after.clock line lines clock clock_too days) ran memory.1 too
      memory_too.1 in
      (parts ∙ ap (λ (l : List ℕ). l ++ more) here.0 ∙ ap (λ (l : List ℕ). said_too ++ l) rest.0 ∙ sym parts_too, rest.1)

pub runs_are_determined : {D G C : Type 0} (outside : Outside D G C) → RunsAreDetermined outside
runs_are_determined outside first other lines text told last end alike days well well_too ends =
    runs_alike outside last end (none_stopped last.lanes well.running) (none_stopped end.lanes well_too.running)
    well.room well_too.room ends lines first other text told alike days well.ran well.memory well_too.ran
    well_too.memory
