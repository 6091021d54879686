-- Journals that are being made: what is left of one where that fails.
use Rattle.std.specs.Prelude.{ℕ, ◌≡◌, ◌≤◌, ◌⊎◌, List, [], ◌∷◌, length, take, refl}
use Rattle.std.proofs.Common.{inl, inr, lit≤}
use Rattle.kb_journal.specs.Format.{StandsFor}

-- a list is the first part of another
abbrev pub IsFirstPart : {A : Type 0} → List A → List A → Type 0
IsFirstPart part whole = take (length part) whole ≡ part

two_of_three : IsFirstPart {A = ℕ} (7 ∷ 8 ∷ []) (7 ∷ 8 ∷ 9 ∷ [])
two_of_three = refl

-- Bytes begin the journal of these records: no more than its header and first gate take, since a write that
-- fails may leave any bytes where it writes; or those of a journal of the first of the records.
abbrev pub IsBegun : ℕ → ℕ → List (List ℕ) → List ℕ → Type 0
IsBegun lanes lane records bytes = (length bytes ≤ 17)
    ⊎ ((part : List (List ℕ)) × IsFirstPart part records × StandsFor lanes lane part bytes)

two_letters : IsBegun 3 1 [] (75 ∷ 66 ∷ [])
two_letters = inl (lit≤ tt)

-- the bytes are those that were there, or where none were, they begin the journal of these records
abbrev pub HasOrBegins : ℕ → ℕ → List (List ℕ) → List ℕ → List ℕ → Type 0
HasOrBegins lanes lane records old new = (new ≡ old) ⊎ ((old ≡ []) × IsBegun lanes lane records new)

what_was_there : HasOrBegins 3 1 [] (7 ∷ []) (7 ∷ [])
what_was_there = inl refl

two_letters_where_none_were : HasOrBegins 3 1 [] [] (75 ∷ 66 ∷ [])
two_letters_where_none_were = inr (refl, inl (lit≤ tt))
