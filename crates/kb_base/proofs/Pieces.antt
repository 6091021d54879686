-- Pieces of a text that grows at its end: the last piece goes on, and each separator ends it.
use Rattle.std.proofs.Common.{◌≡◌, ℕ, Bool, true, false, if◌then◌else◌, List, [], ◌∷◌, ◌++◌, refl, sym, ap}
use Rattle.std.proofs.Common.{◌∙◌}
use Rattle.std.specs.Prelude.{◌==◌}
use Rattle.kb_base.specs.Lines.{pieces, onto_first}

-- two lists of pieces are joined: the last piece of the one and the first of the other make one piece
abbrev pub joined : List (List ℕ) → List (List ℕ) → List (List ℕ)
joined [] others = others
joined (piece ∷ []) [] = piece ∷ []
joined (piece ∷ []) (other ∷ others) = (piece ++ other) ∷ others
joined (piece ∷ next ∷ more) others = piece ∷ joined (next ∷ more) others

-- a list that isn't empty
abbrev IsSomeList : List (List ℕ) → Type 0
IsSomeList xs = (first : List ℕ) × (rest : List (List ℕ)) × (xs ≡ first ∷ rest)

onto_first-some : (byte : ℕ) (xs : List (List ℕ)) → IsSomeList (onto_first byte xs)
onto_first-some byte [] = (byte ∷ [], [], refl)
onto_first-some byte (piece ∷ rest) = (byte ∷ piece, rest, refl)

-- there is always a piece
pub pieces-some : (separator : ℕ) (xs : List ℕ) → (first : List ℕ) × (rest : List (List ℕ))
    × (pieces separator xs ≡ first ∷ rest)
pieces-some separator [] = ([], [], refl)
pieces-some separator (x ∷ xs) = by_test (x == separator) (pieces separator xs)
  where
    by_test : (test : Bool) (ps : List (List ℕ)) → IsSomeList (if test then [] ∷ ps else onto_first x ps)
    by_test true ps = ([], ps, refl)
    by_test false ps = onto_first-some x ps

joined-onto_first : (byte : ℕ) (first : List ℕ) (rest others : List (List ℕ))
    → joined (onto_first byte (first ∷ rest)) others ≡ onto_first byte (joined (first ∷ rest) others)
joined-onto_first byte first [] [] = refl
joined-onto_first byte first [] (other ∷ others) = refl
joined-onto_first byte first (next ∷ more) others = refl

-- the pieces of two texts in a row
pub pieces-append : (separator : ℕ) (xs ys : List ℕ)
    → pieces separator (xs ++ ys) ≡ joined (pieces separator xs) (pieces separator ys)
pieces-append separator [] ys =
    let some = pieces-some separator ys in
    rw some.2 refl
pieces-append separator (x ∷ xs) ys =
    by_test (x == separator) (pieces separator xs) (pieces separator ys) (pieces separator (xs ++ ys))
    (pieces-some separator xs) (pieces-append separator xs ys)
  where
    by_test : (test : Bool) (ps qs both : List (List ℕ)) → IsSomeList ps → both ≡ joined ps qs
        → (if test then [] ∷ both else onto_first x both) ≡ joined
        (if test then [] ∷ ps else onto_first x ps) qs
    by_test true [] qs both some e = absurd (cc)
    by_test true (p ∷ ps) qs both some e = ap (λ b. [] ∷ b) e
    by_test false [] qs both some e = absurd (cc)
    by_test false (p ∷ ps) qs both some e = ap (onto_first x) e ∙ sym (joined-onto_first x p ps qs)

-- joining goes on from the last piece
joined-last : (whole : List (List ℕ)) (last other : List ℕ) (others : List (List ℕ))
    → joined (whole ++ last ∷ []) (other ∷ others) ≡ whole ++ (last ++ other) ∷ others
joined-last [] last other others = refl
joined-last (piece ∷ []) last other others = refl
joined-last (piece ∷ next ∷ more) last other others =
    ap (λ ps. piece ∷ ps) (joined-last (next ∷ more) last other others)

-- the pieces of a text that goes on
pub pieces-grown : (separator : ℕ) (xs ys : List ℕ) (whole : List (List ℕ)) (last other : List ℕ)
    (others : List (List ℕ))
    → pieces separator xs ≡ whole ++ last ∷ [] → pieces separator ys ≡ other ∷ others
    → pieces separator (xs ++ ys) ≡ whole ++ (last ++ other) ∷ others
pieces-grown separator xs ys whole last other others of_xs of_ys =
    pieces-append separator xs ys ∙ rw (of_xs, of_ys) (joined-last whole last other others)
