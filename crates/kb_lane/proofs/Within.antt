-- What stands at each moment of a run of steps.
use Rattle.std.proofs.Common.{◌≡◌, ℕ, ◌≤◌, ◌⊎◌, inl, inr, arith, Bool, false, IsTrue, List, [], ◌∷◌}
use Rattle.std.proofs.Common.{◌++◌, length, refl, sym, ap, subst, ◌∙◌}
use Rattle.std.proofs.lemmas.List.{append_assoc, append-nil, length-append, map-append}
use Rattle.kb_disk.specs.Moments.{AtEachMoment}
use Rattle.kb_disk.proofs.Moments.{then_on, weaker}
use Rattle.kb_journal.specs.Format.{IsWithOrWithout}
use Rattle.kb_codec.specs.Entries.{Entry, History, payload, payloads}
use Rattle.kb_lane.specs.Logs.{LogValue}
use Rattle.kb_book.specs.declared.step.Step.{Step}
use Rattle.kb_book.specs.declared.step.Step.TheVariants as steps
use Rattle.kb_lane.specs.Lanes.{LaneValue, StandsThroughout, StandsWithin, IsPast, IsPart}
use Rattle.kb_lane.specs.Draining.{Writes, IsWritten}
use Rattle.kb_lane.specs.Going.{GoesOn, StandsPast}

module _ {D : Type 0} (honest : D → Bool) (moment : D → ℕ) (left_since : D → ℕ → List ℕ → Type 0) where
  -- nothing is written
  pub past_none : (old new : LogValue D) → new ≡ old → StandsPast honest moment left_since old new
  past_none old new same running is = inl (ap (λ log. log.journal.disk) same)

  module _ (old new : LogValue D) (entry : Entry) (lanes : new.journal.lanes ≡ old.journal.lanes)
      (lane : new.journal.lane ≡ old.journal.lane)
      (stands : StandsThroughout honest moment left_since old new entry) where
    -- a command is written down
    pub past_one : new.history ≡ old.history ++ entry ∷ [] → StandsPast honest moment left_since old new
    past_one grown running is =
        inr (weaker moment left_since old.journal.disk new.journal.disk _
        (IsPast (length old.history) new) past
        (stands running is))
      where
        past : (image : List ℕ)
            → IsWithOrWithout old.journal.lanes old.journal.lane (payloads old.history) (payload entry) image
            → IsPast (length old.history) new image
        past image (inl without) = (old.history, entry ∷ [], grown, omega arith, rw (lanes, lane) without)
        past image (inr whole) = (
          old.history ++ entry ∷ [],
          [],
          grown ∙ sym (append-nil (old.history ++ entry ∷ [])),
          omega (arith, length-append old.history (entry ∷ [])),
          rw (lanes, lane, map-append payload old.history (entry ∷ [])) whole,
        )

    -- its append failed
    pub within_mark : new.history ≡ old.history → new.failed ≡ entry ∷ []
        → StandsWithin honest moment left_since old new
    within_mark same marked running is =
        inr (weaker moment left_since old.journal.disk new.journal.disk _
        (IsPart (length old.history) new) part
        (stands running is))
      where
        part : (image : List ℕ)
            → IsWithOrWithout old.journal.lanes old.journal.lane (payloads old.history) (payload entry) image
            → IsPart (length old.history) new image
        part image (inl without) = inl (
          old.history,
          [],
          same ∙ sym (append-nil old.history),
          omega arith,
          rw (lanes, lane) without,
        )
        part image (inr whole) = inr (entry, marked, rw (lanes, lane, same) whole)

  -- what stands for a past stands for a part
  pub within_past : (old new : LogValue D) → StandsPast honest moment left_since old new
      → StandsWithin honest moment left_since old new
  within_past old new past running is = by_case (past running is)
    where
      by_case : (new.journal.disk ≡ old.journal.disk)
          ⊎ AtEachMoment moment left_since old.journal.disk new.journal.disk (IsPast (length old.history) new)
          → (new.journal.disk ≡ old.journal.disk)
          ⊎ AtEachMoment moment left_since old.journal.disk new.journal.disk (IsPart (length old.history) new)
      by_case (inl same) = inl same
      by_case (inr run) = inr (weaker moment left_since old.journal.disk new.journal.disk _
          (IsPart (length old.history) new) (λ image past. inl past) run)

  -- one run after another
  module _ (old middle new : LogValue D) (first : StandsPast honest moment left_since old middle)
      (running : middle.journal.stopped ≡ false)
      (as_honest : honest middle.journal.disk ≡ honest old.journal.disk)
      (longer : GoesOn old.history middle.history) (further : GoesOn middle.history new.history)
      (lanes : new.journal.lanes ≡ middle.journal.lanes) (lane : new.journal.lane ≡ middle.journal.lane) where
    more-length : length old.history ≤ length middle.history
    more-length = omega (arith, ap length longer.1, length-append old.history longer.0)

    earlier : (image : List ℕ) → IsPast (length old.history) middle image
        → IsPast (length old.history) new image
    earlier image (some, rest, parts, least, stands) = (
      some,
      rest ++ further.0,
      further.1 ∙ ap (λ past. past ++ further.0) parts ∙ append_assoc some rest further.0,
      least,
      rw (lanes, lane) stands,
    )

    later : (image : List ℕ) → IsPast (length middle.history) new image
        → IsPast (length old.history) new image
    later image (some, rest, parts, least, stands) =
        (some, rest, parts, omega (arith, more-length, least), stands)

    joined : (P Q : List ℕ → Type 0)
        → ((image : List ℕ) → IsPast (length old.history) middle image → P image)
        → ((image : List ℕ) → Q image → P image)
        → (middle.journal.disk ≡ old.journal.disk)
        ⊎ AtEachMoment moment left_since old.journal.disk middle.journal.disk
        (IsPast (length old.history) middle)
        → (new.journal.disk ≡ middle.journal.disk)
        ⊎ AtEachMoment moment left_since middle.journal.disk new.journal.disk Q
        → (new.journal.disk ≡ old.journal.disk)
        ⊎ AtEachMoment moment left_since old.journal.disk new.journal.disk P
    joined P Q before after (inl one) (inl two) = inl (two ∙ one)
    joined P Q before after (inl one) (inr two) =
        inr (subst (λ disk. AtEachMoment moment left_since disk new.journal.disk P) one
        (weaker moment left_since middle.journal.disk new.journal.disk Q P after two))
    joined P Q before after (inr one) (inl two) =
        inr (subst (λ disk. AtEachMoment moment left_since old.journal.disk disk P) (sym two)
        (weaker moment left_since old.journal.disk middle.journal.disk _ P before one))
    joined P Q before after (inr one) (inr two) =
        inr (then_on moment left_since old.journal.disk middle.journal.disk new.journal.disk P
        (weaker moment left_since old.journal.disk middle.journal.disk _ P before one)
        (weaker moment left_since middle.journal.disk new.journal.disk Q P after two))

    pub past_then : StandsPast honest moment left_since middle new
        → StandsPast honest moment left_since old new
    past_then second goes is =
        joined (IsPast (length old.history) new) (IsPast (length middle.history) new) earlier later
        (first goes is) (second running (subst IsTrue (sym as_honest) is))

    pub within_then : StandsWithin honest moment left_since middle new
        → StandsWithin honest moment left_since old new
    within_then second goes is =
        joined (IsPart (length old.history) new) (IsPart (length middle.history) new)
        (λ image past. inl (earlier image past)) part
        (first goes is) (second running (subst IsTrue (sym as_honest) is))
      where
        part : (image : List ℕ) → IsPart (length middle.history) new image
            → IsPart (length old.history) new image
        part image (inl past) = inl (later image past)
        part image (inr failed) = inr failed

  -- what a step leaves that writes
  module _ {G : Type 0} (fault_count : D → ℕ) (old new : LaneValue D G) (entry : Entry)
      (lanes : new.log.journal.lanes ≡ old.log.journal.lanes)
      (lane : new.log.journal.lane ≡ old.log.journal.lane)
      (moments : (other : Entry) → IsWritten old.log new.log other
      → StandsThroughout honest moment left_since old.log new.log other) where
    pub writes_past : (step : Step) → Writes fault_count old new entry step → step ≡ steps.Done
        → StandsPast honest moment left_since old.log new.log
    writes_past steps.Idle writes done = elim writes [ ]
    writes_past steps.Done writes done =
        past_one old.log new.log entry lanes lane (moments entry (inl writes.history)) writes.history
    writes_past steps.DiskFault writes done = absurd (cc)
    writes_past (steps.Stopped count) writes done = absurd (cc)
    writes_past (steps.Full commands size) writes done = absurd (cc)
    writes_past steps.NoMemory writes done = absurd (cc)

    pub writes_within : (step : Step) → Writes fault_count old new entry step
        → StandsWithin honest moment left_since old.log new.log
    writes_within steps.Idle writes = elim writes [ ]
    writes_within steps.Done writes = within_past old.log new.log (writes_past steps.Done writes refl)
    writes_within steps.DiskFault writes =
        within_mark old.log new.log entry lanes lane
        (moments entry (inr (writes.may.0, writes.stopped, writes.marked))) writes.history writes.marked
    writes_within (steps.Stopped count) writes = within_past old.log new.log
        (past_none old.log new.log writes.2.0)
    writes_within (steps.Full commands size) writes =
        within_past old.log new.log (past_none old.log new.log writes.4.0)
    writes_within steps.NoMemory writes = within_past old.log new.log (past_none old.log new.log writes.0)

-- a step that writes lets the history go on
pub writes_on : {D G : Type 0} (fault_count : D → ℕ) (old new : LaneValue D G) (entry : Entry) (step : Step)
    → Writes fault_count old new entry step → GoesOn old.log.history new.log.history
writes_on fault_count old new entry steps.Idle writes = elim writes [ ]
writes_on fault_count old new entry steps.Done writes = (entry ∷ [], writes.history)
writes_on fault_count old new entry steps.DiskFault writes =
    ([], writes.history ∙ sym (append-nil old.log.history))
writes_on fault_count old new entry (steps.Stopped count) writes =
    ([], ap (λ log. log.history) writes.2.0 ∙ sym (append-nil old.log.history))
writes_on fault_count old new entry (steps.Full commands size) writes =
    ([], ap (λ log. log.history) writes.4.0 ∙ sym (append-nil old.log.history))
writes_on fault_count old new entry steps.NoMemory writes =
    ([], ap (λ log. log.history) writes.0 ∙ sym (append-nil old.log.history))

-- and so do two runs
pub goes_on : (old middle new : History) → GoesOn old middle → GoesOn middle new → GoesOn old new
goes_on old middle new first second = (
  first.0 ++ second.0,
  second.1 ∙ ap (λ past. past ++ second.0) first.1 ∙ append_assoc old first.0 second.0,
)
