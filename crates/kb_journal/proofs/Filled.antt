-- Buffers that are filled from the bytes of a disk.
use Rattle.std.proofs.Common.{ℕ, ◌≡◌, ◌+◌, ◌≤◌, List, ◌++◌, length, take, drop, sym, ◌∙◌, ap, arith}
use Rattle.std.proofs.Common.{length-take}
use Rattle.std.proofs.Math.Seq.{take-add}
use Rattle.std.proofs.lemmas.List.{take_at, drop_at, take-append-le}

-- what a read gave goes on with what was filled
pub filled_more : (old part rest seen : List ℕ) (filled count : ℕ) → filled ≤ length old → count ≤ length part
    → take filled old ≡ take filled seen → take count part ≡ take count (drop filled seen)
    → take (filled + count) (take filled old ++ (part ++ rest)) ≡ take (filled + count) seen
filled_more old part rest seen filled count room few before given =
    let all : List ℕ = take filled old ++ (part ++ rest) in
    let long : length (take filled old) ≡ filled = omega (arith, length-take filled old) in
    let front : take filled all ≡ take filled seen = take_at (take filled old) (part ++ rest) filled long
    ∙ before in
    let behind : take count (drop filled all) ≡ take count (drop filled seen) =
    ap (λ (l : List ℕ). take count l) (drop_at (take filled old) (part ++ rest) filled long)
    ∙ take-append-le count part rest few ∙ given in
    take-add filled count all ∙ ap (λ (l : List ℕ). l ++ take count (drop filled all)) front
    ∙ ap (λ (l : List ℕ). take filled seen ++ l) behind ∙ sym (take-add filled count seen)
