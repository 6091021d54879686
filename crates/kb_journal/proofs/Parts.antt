-- The bytes of a journal, put together from the parts that were read.
use Rattle.std.proofs.Common.{ℕ, ◌≡◌, ◌+◌, ◌-◌, ◌≤◌, List, ◌++◌, length, take, drop, sym, ◌∙◌, ap, arith}
use Rattle.std.proofs.Common.{append_assoc, length-take, length-drop, take-append-drop}
use Rattle.std.proofs.lemmas.List.{drop-drop}
use Rattle.std.specs.Int.{w16, w32, to_be_bytes}
use Rattle.kb_journal.specs.Format.{magic, header, framed}
use Rattle.kb_journal.specs.Reading.{zeros}

-- a record behind its length, and what follows it
pub record_whole : (bytes : List ℕ) (size : ℕ) → to_be_bytes w32 size ≡ take 4 bytes → size + 5 ≤ length bytes
    → bytes ≡ framed (take (4 + size - 4) (drop 4 bytes)) ++ drop
    (4 + length (take (4 + size - 4) (drop 4 bytes))) bytes
record_whole bytes size written fits =
    let some : ℕ = 4 + size - 4 in
    let found : List ℕ = take some (drop 4 bytes) in
    let long : length found ≡ size = omega (arith, length-take some (drop 4 bytes), length-drop 4 bytes) in
    let split : bytes ≡ take 4 bytes ++ (found ++ drop some (drop 4 bytes)) =
    sym (take-append-drop 4 bytes) ∙ ap (λ (l : List ℕ). take 4 bytes ++ l)
    (sym (take-append-drop some (drop 4 bytes))) in
    let front : take 4 bytes ≡ to_be_bytes w32 (length found) =
    sym written ∙ ap (λ (n : ℕ). to_be_bytes w32 n) (sym long) in
    let same : 4 + some ≡ 4 + length found = omega arith in
    let rest : drop some (drop 4 bytes) ≡ drop (4 + length found) bytes =
    drop-drop some 4 bytes ∙ ap (λ (n : ℕ). drop n bytes) same in
    split ∙ ap (λ (l : List ℕ). l ++ (found ++ drop some (drop 4 bytes))) front
    ∙ ap (λ (l : List ℕ). to_be_bytes w32 (length found) ++ (found ++ l)) rest
    ∙ sym (append_assoc (to_be_bytes w32 (length found)) found (drop (4 + length found) bytes))

-- a header, and what follows it
pub header_whole : (bytes : List ℕ) (lanes lane : ℕ) → take 8 bytes ≡ magic
    → to_be_bytes w16 lanes ≡ take 2 (drop 8 bytes) → to_be_bytes w16 lane ≡ take 2 (drop 10 bytes)
    → take 4 (drop 12 bytes) ≡ zeros → bytes ≡ header lanes lane ++ drop 16 bytes
header_whole bytes lanes lane letters many one none =
    let last : drop 12 bytes ≡ zeros ++ drop 16 bytes =
    sym (take-append-drop 4 (drop 12 bytes)) ∙ ap (λ (l : List ℕ). l ++ drop 4 (drop 12 bytes)) none
    ∙ ap (λ (l : List ℕ). zeros ++ l) (drop-drop 4 12 bytes) in
    let third : drop 10 bytes ≡ to_be_bytes w16 lane ++ (zeros ++ drop 16 bytes) =
    sym (take-append-drop 2 (drop 10 bytes)) ∙ ap (λ (l : List ℕ). l ++ drop 2 (drop 10 bytes)) (sym one)
    ∙ ap (λ (l : List ℕ). to_be_bytes w16 lane ++ l) (drop-drop 2 10 bytes ∙ last) in
    let second : drop 8 bytes ≡ to_be_bytes w16 lanes ++ (to_be_bytes w16 lane ++ (zeros ++ drop 16 bytes)) =
    sym (take-append-drop 2 (drop 8 bytes)) ∙ ap (λ (l : List ℕ). l ++ drop 2 (drop 8 bytes)) (sym many)
    ∙ ap (λ (l : List ℕ). to_be_bytes w16 lanes ++ l) (drop-drop 2 8 bytes ∙ third) in
    sym (take-append-drop 8 bytes) ∙ ap (λ (l : List ℕ). l ++ drop 8 bytes) letters
    ∙ ap (λ (l : List ℕ). magic ++ l) second
