-- Some bytes are gone over, and a run is stopped among them.
use Rattle.std.proofs.Common.{◌≡◌, ℕ, Option, Result, Ok, Err, OnOk, IfErr, suc, ◌+◌, ◌<◌, ◌≤◌, List, [], ◌∷◌}
use Rattle.std.proofs.Common.{◌++◌, length, take, drop, get_or, take-append-drop, drop-cons, refl, sym, ap}
use Rattle.std.proofs.Common.{◌∙◌, subst, append_assoc, append-nil}
use Rattle.std.proofs.lemmas.List.{take_more, take_all}
use Rattle.kb_base.specs.Machine.{Machine}
use Rattle.kb_base.specs.Private.Midstream.{Moves, MovesToCut}
use Rattle.kb_base.specs.Stream.{Writes}
use Rattle.kb_base.proofs.Sessions.{moves-then, cut-whole, cut-overlong}
use Rattle.kb_runs.specs.declared.run_stop.RunStop.{RunStop}
use Rattle.kb_runs.specs.declared.run_stop.RunStop.TheVariants.{Input, Output, Memory, LineTooLong}
use Rattle.kb_runs.specs.declared.run_stop.RunStop.TheVariants.{InputTooLong}
use Rattle.kb_runs.specs.Private.Stopping.{StopsAmong, StopsAtByte}

-- what stops a run at a byte stops it among the bytes round it
pub among-byte : {S : Type 0} (machine : Machine S (List ℕ)) (old mid new : S)
    (old_pending pending bytes front before said : List ℕ)
    (byte : ℕ) (rest : List ℕ) (stop : RunStop)
    → Moves machine old old_pending front mid pending before → bytes ≡ front ++ byte ∷ rest
    → StopsAtByte machine mid pending byte stop said new
    → StopsAmong machine old old_pending bytes stop new pending (before ++ said)
among-byte machine old mid new old_pending pending bytes front before said byte rest Memory moved split
    at = record {
      front = front;
      rest = byte ∷ rest;
      split = split;
      answers = before;
      middle = mid;
      moved = moved;
      said = said;
      written = refl;
      cut = at;
    }
among-byte machine old mid new old_pending pending bytes front before said byte rest LineTooLong moved split
    at = record {
      front = front;
      byte = byte;
      rest = rest;
      split = split;
      full = at.2;
      other = at.3;
      moved = subst (λ text. Moves machine old old_pending front new pending text)
          (sym (ap (λ t. before ++ t) at.0 ∙ append-nil before))
          (subst (λ s. Moves machine old old_pending front s pending before) (sym at.1) moved);
    }
among-byte machine old mid new old_pending pending bytes front before said byte rest Input moved split at = at
among-byte machine old mid new old_pending pending bytes front before said byte rest Output moved split at =
    at
among-byte machine old mid new old_pending pending bytes front before said byte rest InputTooLong moved split
    at = at

-- the same, where the bytes before it are counted, and the pending bytes after it are known by an equation
pub among-byte-at : {S : Type 0} (machine : Machine S (List ℕ)) (old mid new : S)
    (old_pending pending new_pending bytes before said : List ℕ)
    (at : ℕ) (stop : RunStop)
    → at < length bytes → Moves machine old old_pending (take at bytes) mid pending before
    → StopsAtByte machine mid pending (get_or bytes at 0) stop said new
    → new_pending ≡ pending → StopsAmong machine old old_pending bytes stop new new_pending (before ++ said)
among-byte-at machine old mid new old_pending pending new_pending bytes before said at stop inside moved stops
    same_pending =
    subst (λ p. StopsAmong machine old old_pending bytes stop new p (before ++ said)) (sym same_pending)
    (among-byte machine old mid new old_pending pending bytes (take at bytes) before said (get_or bytes at 0)
    (drop (suc at) bytes) stop moved
    (sym (take-append-drop at bytes) ∙ ap (λ l. take at bytes ++ l) (drop-cons bytes at 0 inside)) stops)

-- a byte more is gone over
pub more-byte : {S : Type 0} (machine : Machine S (List ℕ)) (old mid new : S)
    (old_pending pending new_pending bytes said text : List ℕ) (at : ℕ)
    → at < length bytes → Moves machine old old_pending (take at bytes) mid pending said
    → Moves machine mid pending (get_or bytes at 0 ∷ []) new new_pending text
    → Moves machine old old_pending (take (at + 1) bytes) new new_pending (said ++ text)
more-byte machine old mid new old_pending pending new_pending bytes said text at inside one two =
    subst (λ bs. Moves machine old old_pending bs new new_pending (said ++ text))
    (sym (take_more bytes at 0 inside))
    (moves-then machine old mid new old_pending pending new_pending (take at bytes)
    (get_or bytes at 0 ∷ []) said text one two)

-- all bytes are gone over
pub all-bytes : {S : Type 0} (machine : Machine S (List ℕ)) (old new : S)
    (old_pending pending bytes said : List ℕ) (at : ℕ)
    → length bytes ≤ at → Moves machine old old_pending (take at bytes) new pending said
    → Moves machine old old_pending bytes new pending said
all-bytes machine old new old_pending pending bytes said at over moved =
    subst (λ bs. Moves machine old old_pending bs new pending said) (take_all at bytes over) moved

-- what was taken of some bytes, whether all of them or up to a stop
pub taken-cut : {S : Type 0} (machine : Machine S (List ℕ)) (old new : S)
    (old_pending pending bytes start said : List ℕ) (result : Result (Unit {0}) RunStop)
    → start ≡ []
    → OnOk result
    ((text : List ℕ) × (said ≡ start ++ text) × Moves machine old old_pending bytes new pending text)
    → IfErr result
    (λ stop. (text : List ℕ) × (said ≡ start ++ text)
    × StopsAmong machine old old_pending bytes stop new pending text)
    → MovesToCut machine old old_pending bytes new pending said
taken-cut machine old new old_pending pending bytes start said (Ok done) none (text, is, moved) err =
    subst (λ t. MovesToCut machine old old_pending bytes new pending t) (sym (is ∙ ap (λ s. s ++ text) none))
    (cut-whole machine old new old_pending pending bytes text moved)
taken-cut {S} machine old new old_pending pending bytes start said (Err stop) none ok (text, is, stopped) =
    subst (λ t. MovesToCut machine old old_pending bytes new pending t) (sym (is ∙ ap (λ s. s ++ text) none))
    (by_stop stop stopped)
  where
    by_stop : (stop : RunStop) → StopsAmong machine old old_pending bytes stop new pending text
        → MovesToCut machine old old_pending bytes new pending text
    by_stop Memory moved = moved
    by_stop LineTooLong moved = cut-overlong machine old new old_pending pending bytes text moved
    by_stop Input none = absurd none
    by_stop Output none = absurd none
    by_stop InputTooLong none = absurd none

-- the answers to what was taken were written in part
pub part-cut : {S : Type 0} (machine : Machine S (List ℕ)) (old new : S)
    (old_pending pending bytes said sent : List ℕ) (before after : Option (List ℕ))
    → MovesToCut machine old old_pending bytes new pending said → sent ≡ said
    → Writes before after (λ text. (rest : List ℕ) × (text ++ rest ≡ sent))
    → Writes before after
    (λ text. (unwritten : List ℕ) × MovesToCut machine old old_pending bytes new pending (text ++ unwritten))
part-cut machine old new old_pending pending bytes said sent before after moved same (text, appended, cut) = (
  text,
  appended,
  (
    cut.0,
    subst (λ t. MovesToCut machine old old_pending bytes new pending t)
        (sym (cut.1 ∙ same)) moved,
  ),
)

-- a text is added, and then another
pub said-more : (begun so_far next mid new : List ℕ) → mid ≡ begun ++ so_far → new ≡ mid ++ next
    → new ≡ begun ++ (so_far ++ next)
said-more begun so_far next mid new one two =
    two ∙ ap (λ text. text ++ next) one ∙ append_assoc begun so_far next
