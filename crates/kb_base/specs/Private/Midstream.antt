-- A machine in mid-stream: some bytes were read, and the last piece of them is pending.
use Rattle.std.specs.Prelude.{ℕ, ◌≡◌, ◌≤◌, ◌⊎◌, ◌==◌, false, List, [], ◌∷◌, ◌++◌, length, MatchBool}
use Rattle.kb_base.specs.Lines.{pieces, lines_of, is_line, line_feed, max_line}
use Rattle.kb_base.specs.Machine.{Machine, IsRun}
use Rattle.kb_base.specs.Stream.{HasShortLines, CutsPiece}

-- In mid-stream: of the bytes seen so far these pieces have ended and their lines are answered; the last
-- piece is pending.
pub record IsAt {S : Type 0} (machine : Machine S (List ℕ)) (first : S) (seen : List ℕ) (state : S)
    (pending text : List ℕ) : Type 0 where
  pub answered : List (List ℕ)
  pub split : pieces line_feed seen ≡ answered ++ pending ∷ []
  pub short : HasShortLines seen
  pub ran : IsRun machine first (lines_of answered) text state

-- From any state that was reached before, some bytes more are seen, and this text is added to the answers.
abbrev pub Moves : {S : Type 0} → Machine S (List ℕ) → S → List ℕ → List ℕ → S → List ℕ → List ℕ → Type 0
Moves {S} machine old_state old_pending bytes new_state new_pending added =
    (first : S) (seen text : List ℕ) → IsAt machine first seen old_state old_pending text
    → IsAt machine first (seen ++ bytes) new_state new_pending (text ++ added)

-- the pending piece has ended: a line is answered, and another piece is skipped
abbrev pub EndsPiece : {S : Type 0} → Machine S (List ℕ) → S → List ℕ → S → List ℕ → Type 0
EndsPiece machine old piece new added =
    MatchBool (is_line piece) (machine.step old piece added new) ((new ≡ old) × (added ≡ []))

-- at the next byte nothing was begun, or it is a line feed, and the pending line was begun and cut short
abbrev pub CutsAt : {S : Type 0} → Machine S (List ℕ) → S → List ℕ → ℕ → List ℕ → S → Type 0
CutsAt machine old pending byte said new =
    ((said ≡ []) × (new ≡ old)) ⊎ ((byte ≡ line_feed) × CutsPiece machine old pending said new)

-- the same of the first of some bytes
abbrev pub CutsAmong : {S : Type 0} → Machine S (List ℕ) → S → List ℕ → List ℕ → List ℕ → S → Type 0
CutsAmong machine old pending [] said new = (said ≡ []) × (new ≡ old)
CutsAmong machine old pending (byte ∷ rest) said new = CutsAt machine old pending byte said new

-- Of some bytes the first ones are seen, and then nothing more was done, or a line was begun and cut short.
pub record MovesToCut {S : Type 0} (machine : Machine S (List ℕ)) (old : S) (old_pending bytes : List ℕ)
    (new : S) (new_pending added : List ℕ) : Type 0 where
  pub front : List ℕ
  pub rest : List ℕ
  pub split : bytes ≡ front ++ rest
  pub answers : List ℕ
  pub middle : S
  pub moved : Moves machine old old_pending front middle new_pending answers
  pub said : List ℕ
  pub written : added ≡ answers ++ said
  pub cut : CutsAmong machine middle new_pending rest said new

-- Of some bytes the first ones are seen, and the next one makes the pending line too long.
pub record MovesToOverlong {S : Type 0} (machine : Machine S (List ℕ)) (old : S) (old_pending bytes : List ℕ)
    (new : S) (new_pending added : List ℕ) : Type 0 where
  pub front : List ℕ
  pub byte : ℕ
  pub rest : List ℕ
  pub split : bytes ≡ front ++ byte ∷ rest
  pub full : max_line ≤ length new_pending
  pub other : (byte == line_feed) ≡ false
  pub moved : Moves machine old old_pending front new new_pending added
