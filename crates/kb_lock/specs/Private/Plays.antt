-- What each step tells: of the step, the seat before, the number found and the seat after.
use Rattle.std.specs.Prelude.{◌≡◌, ◌≢◌, ℕ, List, [], ◌∷◌, Option, Some, None}
use mathlib.Core.List.{IsPrefix}
use Rattle.atomic_table.specs.Table.{Me, Step}
use Rattle.kb_lock.specs.declared.table.View.{View}
use Rattle.kb_lock.specs.Private.Views.{rests, waits, holds, told}

abbrev pub Sat : Type 0 → Type 0 → Type 0
Sat T E = Me (Option T) (View E)

module _ {T E : Type 0} where
  -- where the number found was the expected one, it is the pass's ticket
  abbrev pub drawn : Step (Option T) → Sat T E → ℕ → Sat T E → Type 0
  drawn s m n w = (n ≡ s.first → w ≡ (waits n m.0.seen, [])) × (n ≢ s.first → w ≡ m)

  -- the slot of a value whose history begins with what the pass saw
  abbrev pub Got : (T → List E) → Sat T E → Sat T E → Type 0
  Got history m w =
      (value : T) × IsPrefix m.0.seen (history value)
      × (w ≡ (holds m.0.ticket (history value), (0, Some value) ∷ []))

  -- where the own ticket is served, the slot is the pass's
  abbrev pub looked : (T → List E) → Step (Option T) → Sat T E → ℕ → Sat T E → Type 0
  looked history s m n w = (n ≡ m.0.ticket → Got history m w) × (n ≢ m.0.ticket → w ≡ m)

  -- the history of the value in the slot that a seat has
  abbrev pub carried : (T → List E) → List (ℕ × Option T) → List E
  carried history [] = []
  carried history ((k, None) ∷ rest) = []
  carried history ((k, Some value) ∷ rest) = history value

  -- the pass saw the history of the value that it has put back
  abbrev pub told_front : (T → List E) → Step (Option T) → Sat T E → ℕ → Sat T E → Type 0
  told_front history s m n w = w ≡ (told m.0.ticket (carried history m.1), m.1)

  -- the slot is at home, and the pass rests
  abbrev pub gone : Step (Option T) → Sat T E → ℕ → Sat T E → Type 0
  gone s m n w = w ≡ (rests m.0.seen, [])

  -- the pass saw the front, which begins with what it saw before and with its note
  abbrev pub Saw : Sat T E → Sat T E → Type 0
  Saw m w =
      (front : List E) × IsPrefix m.0.seen front × IsPrefix m.0.note front × (w ≡ (rests front, []))

  abbrev pub shown : Step (Option T) → Sat T E → ℕ → Sat T E → Type 0
  shown s m n w = Saw m w
