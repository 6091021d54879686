-- What is read ahead: unread bytes stay the same, and what was read grows.
use Rattle.std.proofs.Common.{ℕ, List, ◌++◌, Option, ap, ◌∙◌, append_assoc}
use Rattle.std.proofs.KnownBytes.{Keeps-trans}
use Rattle.kb_http.specs.Private.Reading.{ReadsAhead}

-- one reading after another
pub reads_on : {L : Type 0} (left written : L → Option (List ℕ)) (output_faults : L → ℕ) (a b c : L)
    (p q r : List ℕ)
    → ReadsAhead left written output_faults a b p q → ReadsAhead left written output_faults b c q r
    → ReadsAhead left written output_faults a c p r
reads_on left written output_faults a b c p q r first second = record {
  kept = Keeps-trans _ _ _ first.kept second.kept;
  grown = (
    first.grown.0 ++ second.grown.0,
    second.grown.1 ∙ ap (λ text. text ++ second.grown.0) first.grown.1
        ∙ append_assoc p first.grown.0 second.grown.0,
  );
  output = second.output ∙ first.output;
  output_calm = second.output_calm ∙ first.output_calm;
}
