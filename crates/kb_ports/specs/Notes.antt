-- What an object outside notes of what it is handed, where it tells that.
use Rattle.std.specs.Prelude.{ℕ, ◌≡◌, ⊤, List, [], ◌∷◌, ◌++◌, Option, None, Some, refl}

-- A note is added to a list that is told. An object that could not note a call tells the list no more, and
-- then never again.
abbrev pub Notes : {A : Type 0} → Option (List A) → A → Option (List A) → Type 0
Notes before note None = ⊤
Notes None note (Some after) = ⊥
Notes (Some before) note (Some after) = after ≡ before ++ note ∷ []

a_third_note : Notes {A = ℕ} (Some (5 ∷ 7 ∷ [])) 9 (Some (5 ∷ 7 ∷ 9 ∷ []))
a_third_note = refl
