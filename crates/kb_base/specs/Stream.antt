-- A machine over the lines of a stream of bytes, which is read in pieces of any size, until it ends or a
-- fault comes.
use Rattle.std.specs.Prelude.{ℕ, ◌≡◌, ◌⊎◌, IsTrue, IsFalse, List, [], ◌∷◌, ◌++◌, take_while, Option}
use Rattle.std.specs.List.{list_all}
use Rattle.std.specs.Io.KnownBytes.{Appends, Consumes}
use Rattle.kb_base.specs.Lines.{pieces, lines_of, is_line, line_feed, is_short}
use Rattle.kb_base.specs.Machine.{Machine, IsRun}

-- the pieces that have ended: all but the last
abbrev pub ended : List (List ℕ) → List (List ℕ)
ended [] = []
ended (piece ∷ []) = []
ended (piece ∷ next ∷ more) = piece ∷ ended (next ∷ more)

-- the lines of a text, the last one with or without a line feed
abbrev pub lines : List ℕ → List (List ℕ)
lines bytes = lines_of (pieces line_feed bytes)

-- the lines of a text that a line feed has ended
abbrev pub ended_lines : List ℕ → List (List ℕ)
ended_lines bytes = lines_of (ended (pieces line_feed bytes))

-- the lines of a text that come before the first piece that is too long
abbrev pub lines_before_overlong : List ℕ → List (List ℕ)
lines_before_overlong bytes = lines_of (take_while is_short (pieces line_feed bytes))

-- each piece of the text is short enough for a line
abbrev pub HasShortLines : List ℕ → Type 0
HasShortLines bytes = IsTrue (list_all is_short (pieces line_feed bytes))

-- some piece of the text is too long for a line
abbrev pub HasOverlongLine : List ℕ → Type 0
HasOverlongLine bytes = IsFalse (list_all is_short (pieces line_feed bytes))

-- The whole input was read, and its lines are answered.
pub record IsDone {S : Type 0} (machine : Machine S (List ℕ)) (first : S) (bytes text : List ℕ)
    (last : S) : Type 0 where
  pub short : HasShortLines bytes
  pub ran : IsRun machine first (lines bytes) text last

-- The reading broke off after these bytes, and the lines that had ended are answered.
pub record IsBroken {S : Type 0} (machine : Machine S (List ℕ)) (first : S) (bytes text : List ℕ)
    (last : S) : Type 0 where
  pub short : HasShortLines bytes
  pub ran : IsRun machine first (ended_lines bytes) text last

-- A line is too long, and the lines before it are answered.
pub record IsOverlong {S : Type 0} (machine : Machine S (List ℕ)) (first : S) (bytes text : List ℕ)
    (last : S) : Type 0 where
  pub long : HasOverlongLine bytes
  pub ran : IsRun machine first (lines_before_overlong bytes) text last

-- a piece is a line that was begun and cut short: this is what was said of it, and the state that it left
abbrev pub CutsPiece : {S : Type 0} → Machine S (List ℕ) → S → List ℕ → List ℕ → S → Type 0
CutsPiece machine old piece said new = IsTrue (is_line piece) × machine.cut old piece said new

-- so is the first of some pieces
abbrev pub CutsFirst : {S : Type 0} → Machine S (List ℕ) → S → List (List ℕ) → List ℕ → S → Type 0
CutsFirst machine old [] said new = ⊥
CutsFirst machine old (piece ∷ later) said new = CutsPiece machine old piece said new

-- The machine gave up before some line or in it. The lines before it are answered. Then nothing more was said
-- and done, or that line was begun and cut short, and what was said of it ends the text.
pub record IsGivenUp {S : Type 0} (machine : Machine S (List ℕ)) (first : S) (bytes text : List ℕ)
    (last : S) : Type 0 where
  pub answered : List (List ℕ)
  pub unread : List (List ℕ)
  pub split : pieces line_feed bytes ≡ answered ++ unread
  pub answers : List ℕ
  pub middle : S
  pub ran : IsRun machine first (lines_of answered) answers middle
  pub said : List ℕ
  pub written : text ≡ answers ++ said
  pub left : ((said ≡ []) × (last ≡ middle)) ⊎ CutsFirst machine middle unread said last

-- Some first lines were answered, and of their answers a first part was written.
pub record IsCutOff {S : Type 0} (machine : Machine S (List ℕ)) (first : S) (bytes text : List ℕ)
    (last : S) : Type 0 where
  pub unwritten : List ℕ
  pub answers : IsGivenUp machine first bytes (text ++ unwritten) last

-- Known bytes are read from a source, and of those that were read this holds.
abbrev pub Reads : Option (List ℕ) → Option (List ℕ) → (List ℕ → Type 0) → Type 0
Reads old new P = (bytes : List ℕ) × Consumes old new bytes × P bytes

-- Known bytes are written to a sink, and of those that were written this holds.
abbrev pub Writes : Option (List ℕ) → Option (List ℕ) → (List ℕ → Type 0) → Type 0
Writes old new P = (text : List ℕ) × Appends old new text × P text
