-- The records that were read are those that the bytes tell.
use Rattle.std.proofs.Common.{ℕ, zero, suc, ◌≡◌, ◌+◌, ◌-◌, ◌≤◌, List, [], ◌∷◌, ◌++◌, length, take, drop}
use Rattle.std.proofs.Common.{refl, sym, ◌∙◌, ap, subst, arith, append_assoc, length-append}
use Rattle.std.proofs.lemmas.List.{take_at, drop_at, drop-drop}
use Rattle.kb_journal.specs.Format.{framed, blocks, IsSized, AreSized}
use Rattle.kb_journal.specs.Reading.{told_size}
use Rattle.kb_journal.specs.Private.Records.{first_told, behind_first, told}
use Rattle.kb_journal.specs.Private.Parts.{AreThere, AreRead, IsEnd}
use Rattle.kb_journal.proofs.Exact.{told_framed}

module _ (one more : List ℕ) (sized : IsSized one) where
  -- a record behind an open gate, and more
  whole : List ℕ
  whole = 1 ∷ (framed one ++ more)

  -- its size is the one told
  size_is : told_size (drop 1 whole) ≡ length one
  unfolding whole
  size_is = told_framed one more sized

  -- so are its bytes
  first_is : first_told whole ≡ one
  unfolding whole
  first_is = ap (λ (n : ℕ). take n (one ++ more)) size_is ∙ take_at one more (length one) refl

  -- the rest is what follows it
  behind_is : behind_first whole ≡ more
  unfolding whole
  behind_is =
      let five : told_size (drop 1 whole) + 5 ≡ 5 + length one = omega (arith, size_is) in
      ap (λ (n : ℕ). drop n whole) five ∙ sym (drop-drop (length one) 5 whole)
      ∙ drop_at one more (length one) refl

  -- all of it is there
  fits : told_size (drop 1 whole) + 5 ≤ length whole
  unfolding whole
  fits = omega (arith, size_is, length-append one more)

-- blocks tell their records
told-blocks : (records : List (List ℕ)) (rest : List ℕ) → AreSized records
    → told (length records) (blocks records ++ rest) ≡ records
unfolding told blocks whole
told-blocks [] rest sized = refl
told-blocks (one ∷ records) rest sized =
    let more : List ℕ = blocks records ++ rest in
    let parts : blocks (one ∷ records) ++ rest ≡ 1 ∷ (framed one ++ more) =
    ap (λ (l : List ℕ). 1 ∷ l) (append_assoc (framed one) (blocks records) rest) in
    ap (λ (l : List ℕ). first_told l ∷ told (length records) (behind_first l)) parts
    ∙ ap (λ (l : List ℕ). l ∷ told (length records) (behind_first (1 ∷ (framed one ++ more))))
    (first_is one more sized.0)
    ∙ ap (λ (l : List ℕ). one ∷ told (length records) l) (behind_is one more sized.0)
    ∙ ap (λ (l : List (List ℕ)). one ∷ l) (told-blocks records rest sized.1)

-- and have each of them
there-blocks : (records : List (List ℕ)) (rest : List ℕ) → AreSized records
    → AreThere (length records) (blocks records ++ rest)
unfolding AreThere blocks whole
there-blocks [] rest sized = tt
there-blocks (one ∷ records) rest sized =
    let more : List ℕ = blocks records ++ rest in
    let parts : 1 ∷ (framed one ++ more) ≡ blocks (one ∷ records) ++ rest =
    ap (λ (l : List ℕ). 1 ∷ l) (sym (append_assoc (framed one) (blocks records) rest)) in
    let There : List ℕ → Type 0 = AreThere (length records) in
    subst (AreThere (suc (length records))) parts (
      fits one more sized.0,
      subst There (sym (behind_is one more sized.0)) (there-blocks records rest sized.1),
    )

-- so the records before a gate are those told
records_told : (count place : ℕ) (bytes : List ℕ) → (end : IsEnd count place bytes)
    → told count bytes ≡ end.records
records_told count place bytes end =
    ap (λ (n : ℕ). told n bytes) end.counted
    ∙ ap (λ (l : List ℕ). told (length end.records) l) end.read.parts
    ∙ told-blocks end.records (drop place bytes) end.read.sized

-- and were read
pub read_told : (count place : ℕ) (bytes : List ℕ) → IsEnd count place bytes
    → AreRead (told count bytes) place bytes
read_told count place bytes end =
    let P : List (List ℕ) → Type 0 = λ records. AreRead records place bytes in
    subst P (sym (records_told count place bytes end)) end.read

-- and are there
pub there_told : (count place : ℕ) (bytes : List ℕ) → IsEnd count place bytes → AreThere count bytes
there_told count place bytes end =
    let P : ℕ → Type 0 = λ n. AreThere n bytes in
    let Q : List ℕ → Type 0 = AreThere (length end.records) in
    subst P (sym end.counted)
    (subst Q (sym end.read.parts) (there-blocks end.records (drop place bytes) end.read.sized))

-- so many records are told
pub length-told : (count : ℕ) (bytes : List ℕ) → length (told count bytes) ≡ count
unfolding told
length-told zero bytes = refl
length-told (suc count) bytes = ap suc (length-told count (behind_first bytes))

-- none are none
pub told_none : (bytes : List ℕ) → told 0 bytes ≡ []
unfolding told
told_none bytes = refl

-- some are the first, and those that what follows it tells
pub told_some : (count : ℕ) (bytes one rest : List ℕ) → 1 ≤ count → one ≡ first_told bytes
    → rest ≡ behind_first bytes → told count bytes ≡ one ∷ told (count - 1) rest
unfolding told
told_some zero bytes one rest some first behind = absurd (omega (arith, some))
told_some (suc count) bytes one rest some first behind =
    let before : count ≡ suc count - 1 = omega arith in
    ap (λ (n : ℕ). first_told bytes ∷ told n (behind_first bytes)) before
    ∙ ap (λ (l : List ℕ). l ∷ told (suc count - 1) (behind_first bytes)) (sym first)
    ∙ ap (λ (l : List ℕ). one ∷ told (suc count - 1) l) (sym behind)

-- all of the first is there
pub first_there : (count : ℕ) (bytes : List ℕ) → 1 ≤ count → AreThere count bytes
    → told_size (drop 1 bytes) + 5 ≤ length bytes
unfolding AreThere
first_there zero bytes some there = absurd (omega (arith, some))
first_there (suc count) bytes some there = there.0

-- and all of the others
pub others_there : (count : ℕ) (bytes : List ℕ) → 1 ≤ count → AreThere count bytes
    → AreThere (count - 1) (behind_first bytes)
unfolding AreThere
others_there zero bytes some there = absurd (omega (arith, some))
others_there (suc count) bytes some there =
    let P : ℕ → Type 0 = λ n. AreThere n (behind_first bytes) in
    let before : count ≡ suc count - 1 = omega arith in
    subst P before there.1
