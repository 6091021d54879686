-- How the reading of records goes on.
use Rattle.std.proofs.Common.{ℕ, suc, ◌≡◌, ◌+◌, ◌-◌, ◌≤◌, ◌<◌, List, [], ◌∷◌, ◌++◌, length, take, drop, refl}
use Rattle.std.proofs.Common.{sym, ◌∙◌, ap, arith, append_assoc, length-append, length-drop}
use Rattle.std.proofs.lemmas.List.{drop-drop, take_all}
use Rattle.kb_journal.specs.Format.{framed, blocks, IsSized}
use Rattle.kb_journal.specs.Private.Parts.{AreRead, IsEnd}
use Rattle.kb_journal.proofs.Bodies.{blocks-push, AreSized-push}

-- before the first record
none_read : (bytes : List ℕ) → 1 ≤ length bytes → AreRead [] 0 bytes
unfolding blocks
none_read bytes some = record {
  sized = tt;
  parts = refl;
  placed = refl;
  more = omega arith;
}

-- one record more
one_more_read : (records : List (List ℕ)) (place : ℕ) (bytes rest found : List ℕ)
    → AreRead records place bytes
    → take (length bytes - place) (drop place bytes) ≡ 1 ∷ rest
    → rest ≡ framed found ++ drop (4 + length found) rest → IsSized found
    → 4 + length found < length rest → AreRead (records ++ found ∷ []) (place + (length found + 5)) bytes
one_more_read records place bytes rest found read behind_gate whole one gate =
    let few : length (drop place bytes) ≤ length bytes - place = omega (arith, length-drop place bytes) in
    let is_open : drop place bytes ≡ 1 ∷ rest = sym (take_all (length bytes - place) (drop place bytes) few)
    ∙ behind_gate in
    let behind : List ℕ = drop (4 + length found) rest in
    let five : length found + 5 ≡ suc (4 + length found) = omega arith in
    let next : drop (place + (length found + 5)) bytes ≡ behind =
    sym (drop-drop (length found + 5) place bytes) ∙ ap (λ (l : List ℕ). drop (length found + 5) l) is_open
    ∙ ap (λ (n : ℕ). drop n (1 ∷ rest)) five in
    record {
      sized = AreSized-push records found read.sized one;
      parts = read.parts ∙ ap (λ (l : List ℕ). blocks records ++ l)
          (is_open ∙ ap (λ (l : List ℕ). 1 ∷ l) whole)
          ∙ sym (append_assoc (blocks records) (1 ∷ framed found) behind)
          ∙ ap (λ (l : List ℕ). l ++ behind) (sym (blocks-push records found))
          ∙ ap (λ (l : List ℕ). blocks (records ++ found ∷ []) ++ l) (sym next);
      placed = omega (
        arith,
        read.placed,
        ap length (blocks-push records found),
        length-append
            (blocks records) (1 ∷ framed found),
      );
      more = omega (arith, read.more, length-drop place bytes, ap length is_open);
    }

-- no record before the first gate
pub none_before : (bytes : List ℕ) → 1 ≤ length bytes → IsEnd 0 0 bytes
none_before bytes some = record {
  records = [];
  read = none_read bytes some;
  counted = refl;
  few = omega arith;
}

-- one record more before the next gate
pub one_more_before : (count place : ℕ) (bytes rest found : List ℕ) → IsEnd count place bytes
    → take (length bytes - place) (drop place bytes) ≡ 1 ∷ rest
    → rest ≡ framed found ++ drop (4 + length found) rest → IsSized found
    → 4 + length found < length rest → IsEnd (count + 1) (place + (length found + 5)) bytes
one_more_before count place bytes rest found end behind_gate whole one gate = record {
  records = end.records ++ found ∷ [];
  read = one_more_read end.records place bytes rest found end.read behind_gate whole one gate;
  counted = omega (arith, end.counted, length-append end.records (found ∷ []));
  few = omega (arith, end.few);
}
