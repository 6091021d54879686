-- The command that a step writes down is the one that it was to write down.
use Rattle.std.proofs.Common.{ℕ, ◌≡◌, inl, inr, arith, length-append, Bool, false, true≢false, IsTrue, Result}
use Rattle.std.proofs.Common.{Ok, Err, List, [], ◌∷◌, ◌++◌, length, sym, ap, subst, ◌∙◌}
use Rattle.kb_book.specs.declared.step.Step.{Step}
use Rattle.kb_book.specs.declared.step.Step.TheVariants as steps
use Rattle.kb_disk.specs.Moments.{AtEachMoment}
use Rattle.kb_journal.specs.Format.{IsWithOrWithout}
use Rattle.kb_journal.specs.declared.fault.AppendFault.{AppendFault}
use Rattle.kb_journal.specs.declared.fault.AppendFault.TheVariants as fault
use Rattle.kb_codec.specs.Entries.{Entry, History, payload, payloads}
use Rattle.kb_lane.specs.Logs.{LogValue, Appends}
use Rattle.kb_lane.specs.Lanes.{LaneValue, StandsThroughout}
use Rattle.kb_lane.specs.Draining.{Writes, IsWritten}

-- a list has no other last element
last-same : (history : History) (one other : Entry) → history ++ one ∷ [] ≡ history ++ other ∷ []
    → one ≡ other
last-same [] one other same = cc
last-same (first ∷ later) one other same = last-same later one other cc

-- no list has itself and one more
not-more : (history : History) (entry : Entry) → history ≡ history ++ entry ∷ [] → ⊥
not-more history entry same = omega (arith, ap length same, length-append history (entry ∷ []))

module _ {D : Type 0} (old new : LogValue D) (other : Entry) where
  -- where nothing is written, no command was
  left-none : new ≡ old → IsWritten old new other → ⊥
  left-none same (inl grown) = not-more old.history other (sym (ap (λ log. log.history) same) ∙ grown)
  left-none same (inr marked) = true≢false (sym marked.1 ∙ ap (λ log. log.journal.stopped) same ∙ marked.0)

module _ {D G : Type 0} (fault_count : D → ℕ) (old new : LaneValue D G) (entry other : Entry) where
  -- the command that a step writes down is the one that was written
  written-memory : (step : Step) → Writes fault_count old new entry step → IsWritten old.log new.log other
      → step ≡ steps.NoMemory → ⊥
  written-memory steps.Idle writes written same = elim writes [ ]
  written-memory steps.Done writes written same = absurd (cc)
  written-memory steps.DiskFault writes written same = absurd (cc)
  written-memory (steps.Stopped count) writes written same = absurd (cc)
  written-memory (steps.Full commands size) writes written same = absurd (cc)
  written-memory steps.NoMemory writes written same = left-none old.log new.log other writes.0 written

  written-entry : (step : Step) → Writes fault_count old new entry step → IsWritten old.log new.log other
      → entry ≡ other
  written-entry steps.Idle writes written = elim writes [ ]
  written-entry steps.Done writes (inl grown) =
      last-same old.log.history entry other (sym writes.history ∙ grown)
  written-entry steps.Done writes (inr marked) = absurd (true≢false (sym marked.1 ∙ writes.running))
  written-entry steps.DiskFault writes (inl grown) =
      absurd (not-more old.log.history other (sym writes.history ∙ grown))
  written-entry steps.DiskFault writes (inr marked) = last-same [] entry other (sym writes.marked ∙ marked.2)
  written-entry (steps.Stopped count) writes written =
      absurd (left-none old.log new.log other writes.2.0 written)
  written-entry (steps.Full commands size) writes written =
      absurd (left-none old.log new.log other writes.4.0 written)
  written-entry steps.NoMemory writes written = absurd (left-none old.log new.log other writes.0 written)

  -- so what holds at each moment with it holds with whatever was written
  pub written_moments : (honest : D → Bool) (moment : D → ℕ)
      (left_since : D → ℕ → List ℕ → Type 0) (step : Step)
      → Writes fault_count old new entry step → IsWritten old.log new.log other
      → ((step ≡ steps.NoMemory → ⊥) → StandsThroughout honest moment left_since old.log new.log entry)
      → StandsThroughout honest moment left_since old.log new.log other
  written_moments honest moment left_since step writes written moments =
      let P : Entry → Type 0 = λ one. StandsThroughout honest moment left_since old.log new.log one in
      subst P (written-entry step writes written) (moments (written-memory step writes written))

module _ {D : Type 0} (fault_count : D → ℕ) (old new : LogValue D) (entry other : Entry) where
  -- the command that a log appended is the one that was written
  appended-entry : (size : ℕ) (result : Result (Unit {0}) AppendFault)
      → Appends fault_count old new entry size result → IsWritten old new other → entry ≡ other
  appended-entry size (Ok done) appends (inl grown) = last-same old.history entry other
      (sym appends.2 ∙ grown)
  appended-entry size (Ok done) appends (inr marked) = absurd (true≢false (sym marked.1 ∙ appends.1))
  appended-entry size (Err (fault.Stopped count)) appends written =
      absurd (left-none old new other appends.2 written)
  appended-entry size (Err (fault.Full commands bytes)) appends written =
      absurd (left-none old new other appends.4 written)
  appended-entry size (Err fault.DiskFault) appends (inl grown) =
      absurd (not-more old.history other (sym appends.2 ∙ grown))
  appended-entry size (Err fault.DiskFault) appends (inr marked) =
      last-same [] entry other (sym appends.3 ∙ marked.2)

  -- what holds at each moment of an append holds with whatever was written
  pub appended_stands : (honest : D → Bool) (moment : D → ℕ) (left_since : D → ℕ → List ℕ → Type 0)
      (bytes : List ℕ) (size : ℕ) (result : Result (Unit {0}) AppendFault)
      → bytes ≡ payload entry → Appends fault_count old new entry size result
      → (old.journal.stopped ≡ false → IsTrue (honest old.journal.disk) → AtEachMoment moment left_since
      old.journal.disk new.journal.disk (IsWithOrWithout old.journal.lanes old.journal.lane
      (payloads old.history) bytes))
      → IsWritten old new other → StandsThroughout honest moment left_since old new other
  appended_stands honest moment left_since bytes size result is appends moments written =
      let P : Entry → Type 0 = λ one. StandsThroughout honest moment left_since old new one in
      subst P (appended-entry size result appends written) (rw (← is) moments)
