-- Records, told by the bytes in which they stand: each behind an open gate and its length.
use Rattle.std.specs.Prelude.{ℕ, zero, suc, ◌≡◌, ◌+◌, List, [], ◌∷◌, take, drop, refl}
use Rattle.kb_journal.specs.Reading.{told_size}

-- the record behind the gate that bytes begin at: as many bytes as its length tells
abbrev pub first_told : List ℕ → List ℕ
first_told bytes = take (told_size (drop 1 bytes)) (drop 5 bytes)

-- what follows it: the bytes from the next gate on
abbrev pub behind_first : List ℕ → List ℕ
behind_first bytes = drop (told_size (drop 1 bytes) + 5) bytes

-- so many records, one behind another
unfoldable pub told : ℕ → List ℕ → List (List ℕ)
told zero bytes = []
told (suc count) bytes = first_told bytes ∷ told count (behind_first bytes)

two_records : told 2 (1 ∷ 0 ∷ 0 ∷ 0 ∷ 2 ∷ 7 ∷ 8 ∷ 1 ∷ 0 ∷ 0 ∷ 0 ∷ 1 ∷ 9 ∷ 0 ∷ [])
    ≡ (7 ∷ 8 ∷ []) ∷ (9 ∷ []) ∷ []
unfolding told
two_records = refl
