-- Laws of a disk in memory: how its bytes, images and moments go on by one call.
use Rattle.std.specs.Prelude.{IsTrue, IsErr, OnOk, is_err}
use Rattle.std.proofs.Common.{ℕ, ◌≡◌, ◌≤◌, ◌<◌, ◌⊎◌, Bool, true, false, Result, Ok, Err, List, [], ◌∷◌, ◌++◌}
use Rattle.std.proofs.Common.{length, refl, sym, subst, inl, inr, arith, length-append}
use Rattle.std.proofs.lemmas.Bool.{cases_lt}
use Rattle.std.proofs.lemmas.List.{take_all, take-append-le}
use Rattle.kb_disk.specs.declared.note.DiskCall.{DiskCall}
use Rattle.kb_disk.specs.declared.note.DiskCall.TheVariants.{Size, Read, Write, Cut, Sync}
use Rattle.kb_disk.specs.declared.note.DiskNote.{DiskNote}
use Rattle.kb_disk.specs.Memory.{LogValue, DiskValue, after_call, seen, images, moment, left_since}
use Rattle.kb_disk.specs.Memory.{bytes_after_note, bytes_after, Leaves, LeavesAfter, IsImage, WasLeft}
use Rattle.kb_disk.specs.Private.Calls.{Steps, Settles, NotesElapse}
use Rattle.kb_disk.specs.Private.Steps.{torn_same, torn_overwritten, cut_same, cut_taken}

-- what a call gives is one of its images
kept_by_call : (bytes : List ℕ) (images : List ℕ → Type 0) (call : DiskCall) (failed : Bool) → images bytes
    → Leaves bytes images call failed (bytes_after_note bytes (record { call = call; failed = failed }))
kept_by_call bytes images Size true here = here
kept_by_call bytes images Size false here = here
kept_by_call bytes images (Read at size) true here = here
kept_by_call bytes images (Read at size) false here = here
kept_by_call bytes images (Write at more) true here = (bytes, here, torn_same at (length more) bytes)
kept_by_call bytes images (Write at more) false here = (bytes, here, torn_overwritten at more bytes)
kept_by_call bytes images (Cut size) true here = (bytes, here, cut_same size bytes)
kept_by_call bytes images (Cut size) false here = (bytes, here, cut_taken size bytes)
kept_by_call bytes images Sync true here = here
kept_by_call bytes images Sync false here = refl

-- and so are the bytes after all calls
kept_by_calls : (bytes : List ℕ) (images : List ℕ → Type 0) (notes : List DiskNote) → images bytes
    → LeavesAfter bytes images notes (bytes_after bytes notes)
kept_by_calls bytes images [] here = here
kept_by_calls bytes images (note ∷ notes) here =
    kept_by_calls (bytes_after_note bytes note) (Leaves bytes images note.call note.failed) notes
    (kept_by_call bytes images note.call note.failed here)

-- what a read gives is an image
pub seen_is_image : (disk : DiskValue) → images disk (seen disk)
seen_is_image disk = kept_by_calls disk.first (λ (bytes : List ℕ). bytes ≡ disk.first) disk.log.notes refl

-- this moment is one of those since an earlier one
pub counts_now : (disk : DiskValue) (time : ℕ) (image : List ℕ) → time ≤ moment disk → images disk image
    → left_since disk time image
counts_now disk time image before now = (
  length disk.log.notes,
  before,
  omega arith,
  subst (λ (notes : List DiskNote). IsImage disk.first notes image)
      (sym (take_all _ disk.log.notes (omega arith))) now,
)

-- since this moment there is no other
pub only_now : (disk : DiskValue) (image : List ℕ) → left_since disk (moment disk) image → images disk image
only_now disk image left =
    subst (λ (notes : List DiskNote). IsImage disk.first notes image)
    (take_all left.0 disk.log.notes left.1) left.3

-- the bytes after one call more
pub bytes_pushed : (bytes : List ℕ) (notes : List DiskNote) (note : DiskNote)
    → bytes_after bytes (notes ++ note ∷ []) ≡ bytes_after_note (bytes_after bytes notes) note
bytes_pushed bytes [] note = refl
bytes_pushed bytes (first ∷ notes) note = bytes_pushed (bytes_after_note bytes first) notes note

-- the images after one call more
images_pushed : (bytes : List ℕ) (images : List ℕ → Type 0) (notes : List DiskNote) (note : DiskNote)
    (image : List ℕ)
    → LeavesAfter bytes images (notes ++ note ∷ []) image
    → Leaves (bytes_after bytes notes) (LeavesAfter bytes images notes) note.call note.failed image
images_pushed bytes images [] note image left = left
images_pushed bytes images (first ∷ notes) note image left =
    images_pushed (bytes_after_note bytes first)
    (Leaves bytes images first.call first.failed) notes note image left

-- what a call makes of the bytes
pub bytes_noted : (first : List ℕ) (log : LogValue) (call : DiskCall) (failed lost : Bool)
    → (lost ≡ true → failed ≡ true)
    → bytes_after first (after_call log call failed lost).notes
    ≡ bytes_after_note (bytes_after first log.notes) (record { call = call; failed = failed })
bytes_noted first log call failed false fails = bytes_pushed first log.notes
    (record { call = call; failed = failed })
bytes_noted first log call true true fails = refl
bytes_noted first log call false true fails = absurd (cc (fails refl))

-- what it makes of the images
pub images_noted : (first : List ℕ) (log : LogValue) (call : DiskCall) (failed lost : Bool)
    → Steps call (IsImage first log.notes) (IsImage first (after_call log call failed lost).notes)
images_noted first log Size failed true = λ image left. left
images_noted first log Size failed false = λ image left. images_pushed _ _ log.notes _ image left
images_noted first log (Read at size) failed true = λ image left. left
images_noted first log (Read at size) failed false = λ image left. images_pushed _ _ log.notes _ image left
images_noted first log (Write at more) failed true = λ image left.
    (image, left, torn_same at (length more) image)
images_noted first log (Write at more) failed false = λ image left. images_pushed _ _ log.notes _ image left
images_noted first log (Cut size) failed true = λ image left. (image, left, cut_same size image)
images_noted first log (Cut size) failed false = λ image left. images_pushed _ _ log.notes _ image left
images_noted first log Sync failed true = λ image left. left
images_noted first log Sync true false = λ image left. images_pushed _ _ log.notes _ image left
images_noted first log Sync false false = λ image left.
    subst (IsImage first log.notes) (sym (images_pushed _ _ log.notes _ image left))
    (seen_is_image (record { first = first; log = log }))

-- and that a sync that succeeds leaves one
pub sync_noted : (first : List ℕ) (log : LogValue) (call : DiskCall)
    → Settles call (bytes_after first log.notes) (IsImage first (after_call log call false false).notes)
sync_noted first log Size = tt
sync_noted first log (Read at size) = tt
sync_noted first log (Write at more) = tt
sync_noted first log (Cut size) = tt
sync_noted first log Sync = λ image left. images_pushed _ _ log.notes _ image left

-- time goes on by a call
pub time_noted : (first : List ℕ) (log : LogValue) (call : DiskCall) (failed lost : Bool)
    → NotesElapse first log.notes (after_call log call failed lost).notes
time_noted first log call failed true = record {
  later = omega arith;
  nothing_else = λ time image before left. inl left;
  keeps = λ time image before left. left;
}
time_noted first log call failed false = record {
  later = omega (arith, length-append log.notes (note ∷ []));
  nothing_else = λ time image before left. goes_on time image left (cases_lt (length log.notes) left.0);
  keeps = λ time image before left. (
    left.0,
    left.1,
    omega (arith, left.2, length-append log.notes (note ∷ [])),
    subst (λ (notes : List DiskNote). IsImage first notes image)
        (sym (take-append-le left.0 log.notes (note ∷ []) left.2)) left.3,
  );
}
  where
    note : DiskNote
    note = record { call = call; failed = failed }

    goes_on : (time : ℕ) (image : List ℕ) (left : WasLeft first (log.notes ++ note ∷ []) time image)
        → (length log.notes < left.0) ⊎ (left.0 ≤ length log.notes)
        → WasLeft first log.notes time image ⊎ IsImage first (log.notes ++ note ∷ []) image
    goes_on time image left (inr early) = inl (
      left.0,
      left.1,
      early,
      subst (λ (notes : List DiskNote). IsImage first notes image)
          (take-append-le left.0 log.notes (note ∷ []) early) left.3,
    )
    goes_on time image left (inl late) = inr (subst (λ (notes : List DiskNote). IsImage first notes image)
        (take_all left.0 (log.notes ++ note ∷ [])
        (omega (arith, late, length-append log.notes (note ∷ [])))) left.3)

-- so a call that succeeds as a sync leaves one image
pub sync_succeeds : {T E : Type 0} (first : List ℕ) (log new : LogValue) (call : DiskCall)
    (result : Result T E) (lost : Bool)
    → new ≡ after_call log call (is_err result) lost → (IsTrue lost → IsErr result)
    → OnOk result (Settles call (bytes_after first log.notes) (IsImage first new.notes))
sync_succeeds first log new call (Err fault) lost noted fails = tt
sync_succeeds first log new call (Ok value) true noted fails = absurd (cc (fails refl))
sync_succeeds first log new call (Ok value) false noted fails =
    subst (λ (l : LogValue). Settles call (bytes_after first log.notes) (IsImage first l.notes)) (sym noted)
    (sync_noted first log call)
