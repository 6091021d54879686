-- Pairs of two lists, one behind the other.
use Rattle.std.proofs.Common.{suc, arith, List, [], ◌∷◌, ◌++◌, All, AllPairs}
use Rattle.std.proofs.lemmas.List.Elements.{All-append}
use Rattle.std.proofs.lemmas.List.Kept.{AllPairs-cons}

module _ {X : Type 0} (R : X → X → Type 0) where
  pub pairs_head : (x : X) (xs : List X) → AllPairs R (x ∷ xs) → All (R x) xs
  pairs_head x xs pairs k d inside = pairs 0 (suc k) d (omega arith) (omega (arith, inside))

  pub pairs_tail : (x : X) (xs : List X) → AllPairs R (x ∷ xs) → AllPairs R xs
  pairs_tail x xs pairs i j d below inside = pairs (suc i) (suc j) d (omega (arith, below))
      (omega (arith, inside))

  pub pairs_back : (xs ys : List X) → AllPairs R (xs ++ ys) → AllPairs R ys
  pairs_back [] ys pairs = pairs
  pairs_back (x ∷ xs) ys pairs = pairs_back xs ys (pairs_tail x (xs ++ ys) pairs)

  pub pairs_append : (xs ys : List X) → AllPairs R xs → AllPairs R ys → All (λ x. All (R x) ys) xs
      → AllPairs R (xs ++ ys)
  pairs_append [] ys first second both = second
  pairs_append (x ∷ xs) ys first second both =
      AllPairs-cons R x (xs ++ ys) (All-append (R x) xs ys (pairs_head x xs first) (both 0 x (omega arith)))
      (pairs_append xs ys (pairs_tail x xs first) second
      (λ k d inside. both (suc k) d (omega (arith, inside))))
