-- What a command comes to.
use Rattle.std.specs.Prelude.{true, false, Bool, Option, Some, None}
use Rattle.kb_book.specs.declared.refusal.Refusal.{Refusal}

-- It is new: this is its reply, and what there is after it. Or it came before, and gets its reply again. Or
-- it is refused. Only a new one changes what there is.
pub data Judged (R A : Type 0) : Type 0 where
  New : R → A → Judged R A
  Again : R → Judged R A
  Refused : Refusal → Judged R A

-- a refusal, if there is one
abbrev pub unless_refused : {R A : Type 0} → Option Refusal → Judged R A → Judged R A
unless_refused (Some refusal) judged = Refused refusal
unless_refused None judged = judged

-- the refusal of what is judged, if it is refused
abbrev pub refusal_in : {R A : Type 0} → Judged R A → Option Refusal
refusal_in (New reply after) = None
refusal_in (Again reply) = None
refusal_in (Refused refusal) = Some refusal

-- the same of a part of what there is
abbrev pub lifted : {R S A B : Type 0} → (R → S) → (A → B) → Judged R A → Judged S B
lifted reply after (New told next) = New (reply told) (after next)
lifted reply after (Again told) = Again (reply told)
lifted reply after (Refused refusal) = Refused refusal

-- what there is after it
abbrev pub after_judged : {R A : Type 0} → A → Judged R A → A
after_judged before (New reply after) = after
after_judged before (Again reply) = before
after_judged before (Refused refusal) = before

-- it is new
abbrev pub is_new : {R A : Type 0} → Judged R A → Bool
is_new (New reply after) = true
is_new (Again reply) = false
is_new (Refused refusal) = false
