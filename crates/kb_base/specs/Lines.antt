-- Pieces of bytes, and lines.
use Rattle.std.specs.Prelude.{ℕ, ◌≡◌, Bool, true, false, not, ◌==◌, nat_le, if◌then◌else◌, List, [], ◌∷◌}
use Rattle.std.specs.Prelude.{length, filter, codes, refl}

-- the pieces with a byte put before the first of them
abbrev pub onto_first : ℕ → List (List ℕ) → List (List ℕ)
onto_first byte [] = (byte ∷ []) ∷ []
onto_first byte (piece ∷ pieces) = (byte ∷ piece) ∷ pieces

-- the pieces of bytes between separators: always one more than there are separators
abbrev pub pieces : ℕ → List ℕ → List (List ℕ)
pieces separator [] = [] ∷ []
pieces separator (byte ∷ bytes) =
    if byte == separator then [] ∷ pieces separator bytes else onto_first byte (pieces separator bytes)

three_pieces : pieces 32 (codes "a bc ") ≡ codes "a" ∷ codes "bc" ∷ [] ∷ []
three_pieces = refl

-- a line feed stands between lines
abbrev pub line_feed : ℕ
line_feed = 10

-- a piece that is a line: it isn't empty, and is no lone carriage return
abbrev pub is_line : List ℕ → Bool
is_line [] = false
is_line (byte ∷ []) = not (byte == 13)
is_line (byte ∷ next ∷ more) = true

-- the lines among some pieces
abbrev pub lines_of : List (List ℕ) → List (List ℕ)
lines_of pieces = filter is_line pieces

-- the most bytes that a line may have
abbrev pub max_line : ℕ
max_line = 65536

-- a piece isn't too long
abbrev pub is_short : List ℕ → Bool
is_short piece = nat_le (length piece) max_line
