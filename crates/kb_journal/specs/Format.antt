-- The bytes of a journal, and the records that they stand for.
use Rattle.std.specs.Prelude.{ℕ, ◌≡◌, ◌==◌, ◌≤◌, ◌⊎◌, false, ⊤, List, [], ◌∷◌, ◌++◌, length, refl}
use Rattle.std.proofs.Common.{lit≤}
use Rattle.std.specs.Int.{w16, w32, to_be_bytes}

-- what a journal begins with, in letters: KBJRNL01
abbrev pub magic : List ℕ
magic = 75 ∷ 66 ∷ 74 ∷ 82 ∷ 78 ∷ 76 ∷ 48 ∷ 49 ∷ []

-- the header: the letters, the number of lanes and the lane in two bytes each, and four bytes 0
abbrev pub header : ℕ → ℕ → List ℕ
header lanes lane = magic ++ (to_be_bytes w16 lanes ++ (to_be_bytes w16 lane ++ (0 ∷ 0 ∷ 0 ∷ 0 ∷ [])))

second_of_three : header 3 1 ≡ 75 ∷ 66 ∷ 74 ∷ 82 ∷ 78 ∷ 76 ∷ 48 ∷ 49 ∷ 0 ∷ 3 ∷ 0 ∷ 1 ∷ 0 ∷ 0 ∷ 0 ∷ 0 ∷ []
second_of_three = refl

-- a record: its length in four bytes, and its bytes
abbrev pub framed : List ℕ → List ℕ
framed bytes = to_be_bytes w32 (length bytes) ++ bytes

two_bytes : framed (7 ∷ 8 ∷ []) ≡ 0 ∷ 0 ∷ 0 ∷ 2 ∷ 7 ∷ 8 ∷ []
two_bytes = refl

-- records, each behind an open gate, which is the byte 1
unfoldable pub blocks : List (List ℕ) → List ℕ
blocks [] = []
blocks (bytes ∷ records) = 1 ∷ (framed bytes ++ blocks records)

-- the header and the records: what stands before the last gate
abbrev pub body : ℕ → ℕ → List (List ℕ) → List ℕ
body lanes lane records = header lanes lane ++ blocks records

-- a record has 1 to 65,536 bytes
pub record IsSized (bytes : List ℕ) : Type 0 where
  pub some : 1 ≤ length bytes
  pub few : length bytes ≤ 65536

-- so has each of some
abbrev pub AreSized : List (List ℕ) → Type 0
AreSized [] = ⊤
AreSized (bytes ∷ records) = IsSized bytes × AreSized records

-- a gate is closed by any byte other than 1
abbrev pub IsClosed : ℕ → Type 0
IsClosed gate = (gate == 1) ≡ false

-- Bytes stand for some records: the header, the records behind open gates, and a closed gate. What follows is
-- free.
pub record StandsFor (lanes lane : ℕ) (records : List (List ℕ)) (bytes : List ℕ) : Type 0 where
  pub gate : ℕ
  pub free : List ℕ
  pub closed : IsClosed gate
  pub sized : AreSized records
  pub parts : bytes ≡ body lanes lane records ++ (gate ∷ free)

one_record : StandsFor 1 0 ((7 ∷ 8 ∷ []) ∷ [])
    (75 ∷ 66 ∷ 74 ∷ 82 ∷ 78 ∷ 76 ∷ 48 ∷ 49 ∷ 0 ∷ 1 ∷ 0 ∷ 0 ∷ 0 ∷ 0 ∷ 0 ∷ 0 ∷ 1
    ∷ 0 ∷ 0 ∷ 0 ∷ 2 ∷ 7 ∷ 8 ∷ 0 ∷ 5 ∷ [])
unfolding blocks
one_record = record {
  gate = 0;
  free = 5 ∷ [];
  closed = refl;
  sized = (record { some = lit≤ tt; few = lit≤ tt }, tt);
  parts = refl;
}

-- bytes stand for the records so far, or for these and one that is being added
abbrev pub IsWithOrWithout : ℕ → ℕ → List (List ℕ) → List ℕ → List ℕ → Type 0
IsWithOrWithout lanes lane records bytes image =
    StandsFor lanes lane records image ⊎ StandsFor lanes lane (records ++ bytes ∷ []) image
