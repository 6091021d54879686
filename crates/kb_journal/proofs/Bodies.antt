-- The bytes of a journal with one record more.
use Rattle.std.proofs.Common.{ℕ, ◌≡◌, ◌+◌, List, [], ◌∷◌, ◌++◌, length, refl, sym, ◌∙◌, ap, arith}
use Rattle.std.proofs.Common.{append_assoc, length-append}
use Rattle.std.proofs.lemmas.List.{append-nil, drop_all}
use Rattle.kb_disk.specs.Images.{overwritten}
use Rattle.kb_journal.specs.Format.{header, framed, blocks, body, IsSized, AreSized, StandsFor}

-- blocks of one record more
pub blocks-push : (records : List (List ℕ)) (bytes : List ℕ)
    → blocks (records ++ bytes ∷ []) ≡ blocks records ++ (1 ∷ framed bytes)
unfolding blocks
blocks-push [] bytes = ap (λ (l : List ℕ). 1 ∷ l) (append-nil (framed bytes))
blocks-push (first ∷ records) bytes =
    ap (λ (l : List ℕ). 1 ∷ (framed first ++ l)) (blocks-push records bytes)
    ∙ ap (λ (l : List ℕ). 1 ∷ l) (sym (append_assoc (framed first) (blocks records) (1 ∷ framed bytes)))

-- what stands before the last gate, with one record more
pub body-push : (lanes lane : ℕ) (records : List (List ℕ)) (bytes : List ℕ)
    → body lanes lane (records ++ bytes ∷ []) ≡ body lanes lane records ++ (1 ∷ framed bytes)
body-push lanes lane records bytes =
    ap (λ (l : List ℕ). header lanes lane ++ l) (blocks-push records bytes)
    ∙ sym (append_assoc (header lanes lane) (blocks records) (1 ∷ framed bytes))

-- how long it is then
pub length-body-push : (lanes lane : ℕ) (records : List (List ℕ)) (bytes : List ℕ)
    → length (body lanes lane (records ++ bytes ∷ [])) ≡ length (body lanes lane records) + length bytes + 5
length-body-push lanes lane records bytes = omega (
  arith,
  ap length (body-push lanes lane records bytes),
  length-append (body lanes lane records) (1 ∷ framed bytes),
)

-- the records keep their sizes
pub AreSized-push : (records : List (List ℕ)) (bytes : List ℕ) → AreSized records → IsSized bytes
    → AreSized (records ++ bytes ∷ [])
AreSized-push [] bytes all one = (one, tt)
AreSized-push (first ∷ records) bytes all one = (all.0, AreSized-push records bytes all.1 one)

-- a journal without a record
pub length-body-nil : (lanes lane : ℕ) → length (body lanes lane []) ≡ 16
unfolding blocks
length-body-nil lanes lane = refl

-- the header and a closed gate, written where no byte is, stand for no record
pub created : (lanes lane : ℕ) (old new block : List ℕ) → length old ≡ 0 → block ≡ header lanes lane ++ 0 ∷ []
    → new ≡ overwritten old 0 block → StandsFor lanes lane [] new
unfolding blocks
created lanes lane old new block none is written = record {
  gate = 0;
  free = [];
  closed = refl;
  sized = tt;
  parts = written ∙ ap (λ (l : List ℕ). block ++ l) (drop_all (0 + length block) old (omega arith))
      ∙ append-nil block ∙ is;
}
