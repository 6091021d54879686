-- What is said of one account after another.
use Rattle.std.proofs.Common.{◌≡◌, ℕ, suc, ◌+◌, ◌<◌, List, ◌∷◌, ◌++◌, length, get_or, drop, sym, ap, ◌∙◌}
use Rattle.std.proofs.Common.{arith, append_assoc, Option, Result, Ok, Err, OnErr, inr}
use Rattle.std.proofs.Math.Seq.{drop-cons}
use Rattle.std.proofs.lemmas.List.Concat.{flat_map-cons}
use Rattle.std.specs.List.{flat_map}
use Rattle.kb_machine.specs.Machines.{MachineValue}
use Rattle.kb_reports.specs.declared.listed.Listed.{Listed}
use Rattle.kb_reports.specs.Listings.{IsListing, PrintsPart, Said, report_text}
use Rattle.kb_reports.specs.Private.Parts.{WritesPart}

module _ {X : Type 0} (say : X → List ℕ) (all : List X) (place : ℕ) (one : X) (inside : place < length all)
    (is : one ≡ get_or all place one) (done : List ℕ)
    (gives : done ++ flat_map say (drop place all) ≡ flat_map say all) where
  -- what is left to say begins with the account at a place
  left : flat_map say (drop place all) ≡ say one ++ flat_map say (drop (place + 1) all)
  left =
      let further : suc place ≡ place + 1 = omega arith in
      ap (flat_map say) (drop-cons all place one inside)
      ∙ ap (λ (first : X). flat_map say (first ∷ drop (suc place) all)) (sym is)
      ∙ flat_map-cons say one (drop (suc place) all)
      ∙ ap (λ from. say one ++ flat_map say (drop from all)) further

  -- that one is said too
  pub one_said : (done ++ say one) ++ flat_map say (drop (place + 1) all) ≡ flat_map say all
  one_said = append_assoc done (say one) _ ∙ ap (λ rest. done ++ rest) (sym left) ∙ gives

  -- a first part of it is
  pub part_said : (part rest : List ℕ) → part ++ rest ≡ say one
      → (done ++ part) ++ (rest ++ flat_map say (drop (place + 1) all)) ≡ flat_map say all
  part_said part rest are =
      let later = flat_map say (drop (place + 1) all) in
      append_assoc done part (rest ++ later)
      ∙ ap (λ more. done ++ more) (sym (append_assoc part rest later) ∙ ap (λ more. more ++ later) are
      ∙ sym left)
      ∙ gives

-- a first part of the lines of all that are listed is one of a report
pub part_of_report : {T E : Type 0} (result : Result T E) (said : Said) (lanes : List MachineValue)
    (listed : List Listed) (written written_after : Option (List ℕ)) → IsListing lanes listed
    → OnErr result (WritesPart written written_after (report_text said lanes listed))
    → OnErr result (PrintsPart said lanes written written_after)
part_of_report (Ok done) said lanes listed written written_after listing part = tt
part_of_report (Err fault) said lanes listed written written_after listing part = inr (listed, listing, part)
