-- The notes of a history.
use Rattle.std.specs.Prelude.{ℕ, ◌≡◌, List, [], ◌∷◌, ◌++◌, Option, Some, None, refl}

-- a note of two parts, if both are there
abbrev pub note_of : {A B : Type 0} → Option A → Option B → List (A × B)
note_of (Some first) (Some second) = (first, second) ∷ []
note_of (Some first) None = []
note_of None second = []

-- earlier notes, and one behind them
abbrev pub with_note : {A B : Type 0} → Option (List (A × B)) → Option A → Option B → List (A × B)
with_note None first second = note_of first second
with_note (Some before) first second = before ++ note_of first second

a_second_note : with_note {A = ℕ} {B = ℕ} (Some ((1, 5) ∷ [])) (Some 2) (Some 7) ≡ (1, 5) ∷ (2, 7) ∷ []
a_second_note = refl
