-- What the bytes of a log's disk stand for.
use Rattle.std.proofs.Common.{◌≡◌, ℕ, ◌⊎◌, Bool, true, false, IsTrue, List, inl, inr, sym}
use Rattle.std.proofs.Common.{subst}
use Rattle.std.proofs.lemmas.Bool.{cases_Bool}
use Rattle.kb_journal.specs.Format.{StandsFor}
use Rattle.kb_journal.specs.Keeping.{Holds}
use Rattle.kb_codec.specs.Entries.{payloads}
use Rattle.kb_lane.specs.Logs.{LogValue, IsLog, KeepsAll, StandsForLog}

pub stands_for : {D : Type 0} (honest : D → Bool) (seen : D → List ℕ) (images : D → List ℕ → Type 0)
    (fault_count : D → ℕ) (log : LogValue D)
    → ((disk : D) → IsTrue (honest disk) → images disk (seen disk))
    → IsLog honest seen images fault_count log → IsTrue (honest log.journal.disk)
    → StandsForLog log (seen log.journal.disk)
stands_for honest seen images fault_count log seen_is_image is honest_disk =
    by_case (cases_Bool log.journal.stopped)
  where
    by_case : (log.journal.stopped ≡ true) ⊎ (log.journal.stopped ≡ false)
        → StandsForLog log (seen log.journal.disk)
    by_case (inl stopped) = inr (
      (is.marked stopped).0,
      (is.marked stopped).1,
      (is.marked stopped).2 honest_disk (seen log.journal.disk) (seen_is_image log.journal.disk honest_disk),
    )
    by_case (inr running) = inl (running, (is.held running honest_disk).kept.stands)

-- a journal that holds the payloads of a log keeps all of it
pub held_all : {D : Type 0} {honest : D → Bool} {seen : D → List ℕ} {images : D → List ℕ → Type 0}
    (log : LogValue D) → Holds honest seen images log.journal (payloads log.history) → KeepsAll images log
held_all log holds = λ image left.
    subst (StandsFor log.journal.lanes log.journal.lane (payloads log.history))
    (sym (holds.kept.durable image left)) holds.kept.stands
