-- What holds inside a lock's public types, and of a seat between two steps.
use Rattle.std.specs.Prelude.{◌≡◌, ℕ, List, [], ◌∷◌, length, true, false, Some, None}
use mathlib.Core.List.{IsPrefix}
use Rattle.atomic_table.specs.Seated.{TableId}
use Rattle.kb_lock.specs.Passes.{Known}
use Rattle.kb_lock.specs.Rule.{has_slot}
use Rattle.kb_lock.specs.Private.Views.{rests, holds, told}
use Rattle.kb_lock.specs.Private.Plays.{Sat}

-- three words and one slot
abbrev pub IsSized : TableId → Type 0
IsSized z = (z.words ≡ 3) × (z.slots ≡ 1)

module _ {T E : Type 0} where
  -- what contracts see of a pass with this seat
  abbrev pub known : TableId → Sat T E → Known E
  known lock m = record { lock = lock; seen = m.0.seen; has_turn = has_slot m.0.stage }

  -- the seat of a pass without a turn
  abbrev pub IsIdle : Sat T E → Type 0
  IsIdle m = m ≡ (rests m.0.seen, [])

  -- the seat of a pass with the turn, whose value is out
  abbrev pub IsHolder : Sat T E → Type 0
  IsHolder m = m ≡ (holds m.0.ticket m.0.seen, (0, None) ∷ [])

  abbrev pub IsEither : Sat T E → Type 0
  IsEither m = (has_slot m.0.stage ≡ false → IsIdle m) × (has_slot m.0.stage ≡ true → IsHolder m)

module _ {T E : Type 0} (history : T → List E) where
  -- a value is back in the slot, with so many entries, and its history begins with what the pass saw
  abbrev pub IsBack : ℕ → Sat T E → Type 0
  IsBack count m =
      (value : T) × (m ≡ (holds m.0.ticket m.0.seen, (0, Some value) ∷ []))
      × IsPrefix m.0.seen (history value) × (count ≡ length (history value))

  -- the front is the history of the value in the slot
  abbrev pub IsTold : Sat T E → Type 0
  IsTold m = (value : T) × (m ≡ (told m.0.ticket (history value), (0, Some value) ∷ []))

  -- the front was set to the history of the value in the slot
  abbrev pub Tells : Sat T E → Sat T E → Type 0
  Tells m w = (value : T) → m.1 ≡ (0, Some value) ∷ [] → w ≡ (told m.0.ticket (history value), m.1)
