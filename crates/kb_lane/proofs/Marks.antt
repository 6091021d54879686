-- A log after an append: its history has the command; or, where it failed, the command is marked, and each image
-- stands for the history with it or without.
use Rattle.std.proofs.Common.{◌≡◌, ℕ, ◌+◌, ◌≤◌, Bool, true, false, true≢false, IsTrue, List, [], ◌∷◌, ◌++◌, length, length-append}
use Rattle.std.proofs.Common.{sym, ap, subst, ◌∙◌, arith}
use Rattle.kb_base.specs.Faults.{Rose}
use Rattle.kb_disk.specs.Moments.{AtEachMoment}
use Rattle.kb_disk.proofs.Moments.{now_has}
use Rattle.kb_journal.specs.Format.{IsWithOrWithout, body}
use Rattle.kb_journal.specs.Keeping.{JournalValue, Holds}
use Rattle.kb_codec.specs.Entries.{Entry, payload, payloads}
use Rattle.kb_lane.specs.Logs.{LogValue, IsLog}
use Rattle.kb_lane.proofs.Rooms.{payloads_more, measured_more}

module _ {D : Type 0} (honest : D → Bool) (seen : D → List ℕ) (images : D → List ℕ → Type 0)
    (fault_count moment : D → ℕ) (left_since : D → ℕ → List ℕ → Type 0) where
  pub marked_log : (counts_now : (disk : D) (time : ℕ) (image : List ℕ) → time ≤ moment disk
      → images disk image
      → left_since disk time image)
      (log : LogValue D) (after : JournalValue D) (entry : Entry) (bytes : List ℕ)
      → IsLog honest seen images fault_count log → bytes ≡ payload entry
      → log.journal.stopped ≡ false → after.stopped ≡ true → after.count ≡ log.journal.count
      → after.lanes ≡ log.journal.lanes → after.lane ≡ log.journal.lane
      → honest after.disk ≡ honest log.journal.disk
      → Rose (fault_count log.journal.disk) (fault_count after.disk)
      → fault_count log.journal.disk ≤ fault_count after.disk
      → ((records : List (List ℕ)) → Holds honest seen images log.journal records
      → AtEachMoment moment left_since log.journal.disk after.disk
      (IsWithOrWithout log.journal.lanes log.journal.lane records bytes))
      → IsLog honest seen images fault_count
      (record log { journal = after; failed = log.failed ++ entry ∷ [] })
  marked_log counts_now log after entry bytes is same running stopped count lanes lane honesty
      rose up moments =
      record {
        counted = count ∙ is.counted;
        early = is.early;
        rising = omega (arith, is.rising, up);
        measured = λ still. absurd (true≢false (sym stopped ∙ still));
        calm = λ still. absurd (true≢false (sym stopped ∙ still));
        held = λ still. absurd (true≢false (sym stopped ∙ still));
        unmarked = λ still. absurd (true≢false (sym stopped ∙ still));
        marked = λ now. (
          entry,
          ap (λ failed. failed ++ entry ∷ []) (is.unmarked running),
          λ sure image left. torn image (now_has moment left_since images log.journal.disk after.disk
              (IsWithOrWithout log.journal.lanes log.journal.lane (payloads log.history) bytes)
              counts_now' (moments
              (payloads log.history) (is.held running (subst IsTrue honesty sure))) image left),
        );
        caused = λ now small. omega (arith, is.rising, rose small);
      }
    where
      counts_now' : (time : ℕ) (image : List ℕ) → time ≤ moment after.disk → images after.disk image
          → left_since after.disk time image
      counts_now' time image low now = counts_now after.disk time image low now

      torn : (image : List ℕ)
          → IsWithOrWithout log.journal.lanes log.journal.lane (payloads log.history) bytes image
          → IsWithOrWithout after.lanes after.lane (payloads log.history) (payload entry) image
      torn image stands = rw (lanes, lane, ← same) stands

-- one command more is acknowledged
pub grown_log : {D : Type 0} (honest : D → Bool) (seen : D → List ℕ) (images : D → List ℕ → Type 0)
    (fault_count : D → ℕ) (log : LogValue D) (after : JournalValue D) (entry : Entry) (bytes : List ℕ)
    → IsLog honest seen images fault_count log → bytes ≡ payload entry
    → log.journal.stopped ≡ false → after.stopped ≡ false → after.count ≡ log.journal.count + 1
    → after.gate ≡ log.journal.gate + length bytes + 5
    → after.lanes ≡ log.journal.lanes → after.lane ≡ log.journal.lane
    → honest after.disk ≡ honest log.journal.disk → fault_count after.disk ≡ fault_count log.journal.disk
    → ((records : List (List ℕ)) → Holds honest seen images log.journal records
    → Holds honest seen images after (records ++ bytes ∷ []))
    → IsLog honest seen images fault_count
    (record log { journal = after; history = log.history ++ entry ∷ [] })
grown_log honest seen images fault_count log after entry bytes is same running still count gate lanes lane
    honesty calm holds =
    let longer = length-append log.history (entry ∷ []) in
    record {
      counted = omega (arith, count, is.counted, longer);
      early = omega (arith, is.early, longer);
      rising = omega (arith, is.rising, calm);
      measured = λ now. gate
          ∙ measured_more after.lanes after.lane log.journal.gate log.history entry bytes same
          (is.measured running
          ∙ ap (λ (n : ℕ). length (body n log.journal.lane (payloads log.history))) (sym lanes)
          ∙ ap (λ (n : ℕ). length (body after.lanes n (payloads log.history))) (sym lane));
      calm = λ now. calm ∙ is.calm running;
      held = λ now sure. subst (Holds honest seen images after)
          (sym (payloads_more log.history entry bytes same))
          (holds (payloads log.history) (is.held running (subst IsTrue honesty sure)));
      unmarked = λ now. is.unmarked running;
      marked = λ now. absurd (true≢false (sym now ∙ still));
      caused = λ now. absurd (true≢false (sym now ∙ still));
    }
