-- What a call makes of the bytes is one of the images that it leaves.
use Rattle.std.proofs.Common.{ℕ, ◌≡◌, ◌+◌, ◌-◌, ◌≤◌, min, List, [], ◌++◌, length, take, drop, refl, sym, ◌∙◌}
use Rattle.std.proofs.Common.{ap, inl, inr, arith, length-append, length-take, length-drop, append_assoc}
use Rattle.std.proofs.lemmas.Bool.{cases_lt}
use Rattle.std.proofs.lemmas.List.{append-nil, take-append-le, take_at, take_all, take_min, drop_at, drop_all}
use Rattle.kb_disk.specs.Images.{overwritten, Torn, CutDown}

-- a write may leave all as it was
pub torn_same : (at size : ℕ) (bytes : List ℕ) → Torn at size bytes bytes
torn_same at size bytes = record {
  before = take_min at bytes;
  no_shorter = omega arith;
  no_longer = omega arith;
  after = refl;
}

-- how long the bytes are after a write
length-overwritten : (at : ℕ) (more bytes : List ℕ) → length (overwritten bytes at more)
    ≡ length (take at bytes) + (length more + length (drop (at + length more) bytes))
length-overwritten at more bytes =
    length-append (take at bytes) (more ++ drop (at + length more) bytes)
    ∙ ap (λ (n : ℕ). length (take at bytes) + n) (length-append more (drop (at + length more) bytes))

-- what follows what was written is as before
after_overwritten : (at : ℕ) (more bytes : List ℕ)
    → drop (at + length more) (overwritten bytes at more) ≡ drop (at + length more) bytes
after_overwritten at more bytes = elim (cases_lt (length bytes) at) [
  | inl past ↦
      drop_all (at + length more) (overwritten bytes at more) (omega (
        arith,
        length-overwritten at more bytes,
        length-take at bytes,
        length-drop (at + length more) bytes,
      ))
      ∙ sym (drop_all (at + length more) bytes (omega arith))
  | inr within ↦
      ap (λ (l : List ℕ). drop (at + length more) l)
      (sym (append_assoc (take at bytes) more (drop (at + length more) bytes)))
      ∙ drop_at (take at bytes ++ more) (drop (at + length more) bytes) (at + length more)
      (omega (arith, length-append (take at bytes) more, length-take at bytes))
]

-- or all bytes written
pub torn_overwritten : (at : ℕ) (more bytes : List ℕ)
    → Torn at (length more) bytes (overwritten bytes at more)
torn_overwritten at more bytes = record {
  before = take_at (take at bytes) (more ++ drop (at + length more) bytes) (min at (length bytes))
      (length-take at bytes);
  no_shorter = omega
      (arith, length-overwritten at more bytes, length-take at bytes, length-drop (at + length more) bytes);
  no_longer = omega
      (arith, length-overwritten at more bytes, length-take at bytes, length-drop (at + length more) bytes);
  after = after_overwritten at more bytes;
}

-- a cut may leave all as it was
pub cut_same : (size : ℕ) (bytes : List ℕ) → CutDown size bytes bytes
cut_same size bytes = record { no_shorter = omega arith; front = take_all (length bytes) bytes (omega arith) }

-- or the bytes cut down
pub cut_taken : (size : ℕ) (bytes : List ℕ) → CutDown size bytes (take size bytes)
cut_taken size bytes = record {
  no_shorter = omega (arith, length-take size bytes);
  front = ap (λ (n : ℕ). take n bytes) (length-take size bytes) ∙ take_min size bytes;
}

-- a write over bytes that were made long enough by the end of what is written
pub overwritten_grown : (at : ℕ) (more bytes : List ℕ) → at ≤ length bytes
    → overwritten (bytes ++ drop (min (length more) (length bytes - at)) more) at more
    ≡ overwritten bytes at more
overwritten_grown at more bytes within =
    let tail : List ℕ = drop (min (length more) (length bytes - at)) more in
    let front : take at (bytes ++ tail) ≡ take at bytes = take-append-le at bytes tail within in
    let size = length-append bytes tail in
    let grown = length-drop (min (length more) (length bytes - at)) more in
    let rest : drop (at + length more) (bytes ++ tail) ≡ drop (at + length more) bytes =
    elim (cases_lt (length bytes) (at + length more)) [
      | inl past ↦ drop_all (at + length more) (bytes ++ tail) (omega arith)
          ∙ sym (drop_all (at + length more) bytes (omega arith))
      | inr inside ↦
          let none : tail ≡ [] = drop_all (min (length more) (length bytes - at)) more (omega arith) in
          ap (λ (l : List ℕ). drop (at + length more) (bytes ++ l)) none
          ∙ ap (λ (l : List ℕ). drop (at + length more) l) (append-nil bytes)
    ] in
    ap (λ (l : List ℕ). l ++ (more ++ drop (at + length more) (bytes ++ tail))) front
    ∙ ap (λ (l : List ℕ). take at bytes ++ (more ++ l)) rest
