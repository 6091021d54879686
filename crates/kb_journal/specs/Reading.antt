-- Why bytes are no journal of a lane, and where that shows.
use Rattle.std.specs.Prelude.{ℕ, ◌≡◌, ◌≢◌, ◌≤◌, ◌<◌, ◌+◌, ◌⊎◌, List, [], ◌∷◌, ◌++◌, length, take, drop, refl}
use Rattle.std.specs.Int.{w16, w32, from_be_bytes}
use Rattle.kb_journal.specs.Format.{magic, body, AreSized}

-- the number in two bytes at a place
abbrev pub number_at : ℕ → List ℕ → ℕ
number_at at bytes = from_be_bytes w16 (take 2 (drop at bytes))

second_and_third : number_at 1 (9 ∷ 1 ∷ 2 ∷ []) ≡ 258
second_and_third = refl

-- The bytes begin as a journal does, with a gate behind the header.
pub record Begins (bytes : List ℕ) : Type 0 where
  pub long : 17 ≤ length bytes
  pub letters : take 8 bytes ≡ magic

-- the header's number of lanes is one
abbrev pub HasLanes : List ℕ → Type 0
HasLanes bytes = (1 ≤ number_at 8 bytes) × (number_at 8 bytes ≤ 64)

-- the four bytes at its end
abbrev pub zeros : List ℕ
zeros = 0 ∷ 0 ∷ 0 ∷ 0 ∷ []

-- The first fault of a header stands at this place: at 0 that it is short or has other letters, at 8 that the
-- number of lanes is out of range, at 10 that the lane is another, at 12 that a byte isn't 0.
abbrev pub IsHeaderFault : ℕ → List ℕ → ℕ → Type 0
IsHeaderFault lane bytes at =
    ((at ≡ 0) × (Begins bytes → ⊥))
    ⊎ (((at ≡ 8) × Begins bytes × (HasLanes bytes → ⊥))
    ⊎ (((at ≡ 10) × Begins bytes × HasLanes bytes × (number_at 10 bytes ≢ lane))
    ⊎ ((at ≡ 12) × Begins bytes × HasLanes bytes × (number_at 10 bytes ≡ lane)
    × (take 4 (drop 12 bytes) ≢ zeros))))

-- the length that a record tells of itself
abbrev pub told_size : List ℕ → ℕ
told_size bytes = from_be_bytes w32 (take 4 bytes)

-- behind an open gate a record is cut short, with the gate behind it, or has a wrong length
abbrev pub IsCutShort : List ℕ → Type 0
IsCutShort bytes = (length bytes < 4) ⊎ ((told_size bytes < 1) ⊎ ((65536 < told_size bytes)
    ⊎ (length bytes < told_size bytes + 5)))

-- Behind the header and some records, the gate at this place is open, and the record behind it is cut short.
pub record IsCutAt (lanes lane : ℕ) (bytes : List ℕ) (at : ℕ) : Type 0 where
  pub some_lanes : 1 ≤ lanes
  pub few_lanes : lanes ≤ 64
  pub records : List (List ℕ)
  pub rest : List ℕ
  pub sized : AreSized records
  pub cut : IsCutShort rest
  pub parts : bytes ≡ body lanes lane records ++ (1 ∷ rest)
  pub place : at ≡ length (body lanes lane records)

-- the bytes are no journal of this lane, which shows at this place
abbrev pub IsNoJournal : ℕ → List ℕ → ℕ → Type 0
IsNoJournal lane bytes at = IsHeaderFault lane bytes at ⊎ IsCutAt (number_at 8 bytes) lane bytes at
