-- What is said as a line.
use Rattle.std.proofs.Common.{◌≡◌, ◌++◌, ◌∷◌, [], ℕ, List, Result, Ok, Err, false, OnOk, OnErr, refl}
use Rattle.std.proofs.Common.{ap, inl, inr}
use Rattle.json.specs.Print.{print_from, escape_byte}
use Rattle.kb_base.specs.Lines.{line_feed}
use Rattle.kb_json.specs.declared.fault.RequestFault.TheVariants as faults
use Rattle.kb_json.specs.declared.answer.TheConstants.{MEMORY_TEXT}
use Rattle.kb_json.specs.declared.said.Said.{Said}
use Rattle.kb_json.specs.declared.said.Said.TheVariants as says
use Rattle.kb_json.specs.Answers.{say}
use Rattle.kb_json.specs.Telling.{Says, tells_change}

-- what follows of a result follows of it also from less
pub on_ok : {T E A B : Type 0} (result : Result T E) → (A → B) → OnOk result A → OnOk result B
on_ok (Ok value) weaker is = weaker is
on_ok (Err fault) weaker is = is

pub on_err : {T E A B : Type 0} (result : Result T E) → (A → B) → OnErr result A → OnErr result B
on_err (Ok value) weaker is = is
on_err (Err fault) weaker is = weaker is

pub memory_text : MEMORY_TEXT.now ≡ say (says.Fault faults.NoMemory)
unfolding print_from escape_byte
memory_text = refl

-- the line of what is said; or, where nothing was written down, the one that says that memory ran out
pub says_text : (spoken : Said) (text : List ℕ) → text ≡ say spoken → Says spoken (text ++ line_feed ∷ [])
says_text spoken text is = inl (ap (λ it. it ++ line_feed ∷ []) is)

pub says_memory : (spoken : Said) → tells_change spoken ≡ false
    → Says spoken (MEMORY_TEXT.now ++ line_feed ∷ [])
says_memory spoken none = inr (none, ap (λ it. it ++ line_feed ∷ []) memory_text)
