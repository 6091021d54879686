-- A run that is stopped in mid-stream, by what stops it.
use Rattle.std.specs.Prelude.{ℕ, ◌≡◌, ◌≤◌, ◌⊎◌, ◌==◌, false, List, [], ◌++◌, length}
use Rattle.kb_base.specs.Machine.{Machine}
use Rattle.kb_base.specs.Lines.{line_feed, max_line}
use Rattle.kb_base.specs.Stream.{CutsPiece}
use Rattle.kb_base.specs.Private.Midstream.{EndsPiece, CutsAt, MovesToCut, MovesToOverlong}
use Rattle.kb_runs.specs.declared.run_stop.RunStop.{RunStop}
use Rattle.kb_runs.specs.declared.run_stop.RunStop.TheVariants.{Input, Output, Memory, LineTooLong}
use Rattle.kb_runs.specs.declared.run_stop.RunStop.TheVariants.{InputTooLong}

-- what stops a run at a byte that comes behind a pending piece, and what was said and left
abbrev pub StopsAtByte : {S : Type 0} → Machine S (List ℕ) → S → List ℕ → ℕ → RunStop → List ℕ → S → Type 0
StopsAtByte machine old pending byte Memory said new = CutsAt machine old pending byte said new
StopsAtByte machine old pending byte LineTooLong said new =
    (said ≡ []) × (new ≡ old) × (max_line ≤ length pending) × ((byte == line_feed) ≡ false)
StopsAtByte machine old pending byte Input said new = ⊥
StopsAtByte machine old pending byte Output said new = ⊥
StopsAtByte machine old pending byte InputTooLong said new = ⊥

-- what was said of some bytes when the machine was stopped among them
abbrev pub StopsAmong : {S : Type 0} → Machine S (List ℕ) → S → List ℕ → List ℕ → RunStop → S → List ℕ → List ℕ
    → Type 0
StopsAmong machine old old_pending bytes Memory new new_pending added =
    MovesToCut machine old old_pending bytes new new_pending added
StopsAmong machine old old_pending bytes LineTooLong new new_pending added =
    MovesToOverlong machine old old_pending bytes new new_pending added
StopsAmong machine old old_pending bytes Input new new_pending added = ⊥
StopsAmong machine old old_pending bytes Output new new_pending added = ⊥
StopsAmong machine old old_pending bytes InputTooLong new new_pending added = ⊥

-- what was written of it when the run was stopped among some bytes: all, unless the output failed
abbrev pub BreaksAmong : {S : Type 0} → Machine S (List ℕ) → S → List ℕ → List ℕ → RunStop → S → List ℕ → List ℕ
    → Type 0
BreaksAmong machine old old_pending bytes Memory new new_pending text =
    MovesToCut machine old old_pending bytes new new_pending text
BreaksAmong machine old old_pending bytes LineTooLong new new_pending text =
    MovesToOverlong machine old old_pending bytes new new_pending text
BreaksAmong machine old old_pending bytes Output new new_pending text =
    (unwritten : List ℕ) × MovesToCut machine old old_pending bytes new new_pending (text ++ unwritten)
BreaksAmong machine old old_pending bytes Input new new_pending text = ⊥
BreaksAmong machine old old_pending bytes InputTooLong new new_pending text = ⊥

-- the last piece has ended, or its line was begun and cut short
abbrev pub TriesPiece : {S : Type 0} → Machine S (List ℕ) → S → List ℕ → S → List ℕ → Type 0
TriesPiece machine old piece new said =
    EndsPiece machine old piece new said ⊎ CutsPiece machine old piece said new

-- what was written of the answer to the last piece when the run was stopped at it
abbrev pub StopsAtLast : {S : Type 0} → Machine S (List ℕ) → S → List ℕ → RunStop → S → List ℕ → Type 0
StopsAtLast machine old piece Memory new text = CutsPiece machine old piece text new
StopsAtLast machine old piece Output new text =
    (unwritten : List ℕ) × TriesPiece machine old piece new (text ++ unwritten)
StopsAtLast machine old piece LineTooLong new text = ⊥
StopsAtLast machine old piece Input new text = ⊥
StopsAtLast machine old piece InputTooLong new text = ⊥
