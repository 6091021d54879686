-- A machine whose steps are determined has one run over some inputs.
use Rattle.std.proofs.Common.{◌≡◌, ℕ, List, [], ◌∷◌, ◌++◌, sym, ap₂, ◌∙◌, subst}
use Rattle.kb_base.specs.Machine.{Machine, IsRun, IsDetermined}
use Rattle.kb_base.specs.Stream.{IsDone, lines}

-- two runs over the same inputs say the same text and end in the same state
run-only : {S I : Type 0} (machine : Machine S I) → IsDetermined machine
    → (first last other : S) (inputs : List I)
    (text found : List ℕ) → IsRun machine first inputs text last → IsRun machine first inputs found other
    → (text ≡ found) × (last ≡ other)
run-only machine only first last other [] text found one two = (one.0 ∙ sym two.0, one.1 ∙ sym two.1)
run-only machine only first last other (input ∷ inputs) text found (said, more, next, stepped, split, ran)
    (said', more', next', stepped', split', ran') =
    let same = only first input said said' next next' stepped stepped' in
    let later = run-only machine only next last other inputs more more' ran
    (subst (λ s. IsRun machine s inputs more' other) (sym same.1) ran') in
    (split ∙ ap₂ (λ a b. a ++ b) same.0 later.0 ∙ sym split', later.1)

-- no other text answers the lines of an input that was read to its end, and no other state is reached
pub done-only : {S : Type 0} (machine : Machine S (List ℕ)) → IsDetermined machine → (first last other : S)
    (bytes text found : List ℕ) → IsDone machine first bytes text last
    → IsRun machine first (lines bytes) found other
    → (text ≡ found) × (last ≡ other)
done-only machine only first last other bytes text found done ran =
    run-only machine only first last other (lines bytes) text found done.ran ran
