-- Sizes of lists.
use Rattle.std.proofs.Common.{◌≡◌, ◌+◌, ◌≤◌, List, [], ◌∷◌, ◌++◌, ℤ, nat_abs}
use Rattle.std.proofs.Common.{arith}
use Rattle.kb_sharing.specs.Sums.{sum_of}
use Rattle.kb_credit.specs.Sizes.{size_of}
use Rattle.kb_credit.proofs.Integers.{nat_abs-add}

module _ {A : Type 0} (weight : A → ℤ) where
  -- of two parts
  pub size_of-append : (front back : List A)
      → size_of weight (front ++ back) ≡ size_of weight front + size_of weight back
  size_of-append [] back = omega arith
  size_of-append (member ∷ front) back = let later = size_of-append front back in omega arith

  -- of one more
  pub size_of-push : (front : List A) (member : A)
      → size_of weight (front ++ member ∷ []) ≡ size_of weight front + nat_abs (weight member)
  size_of-push front member = let both = size_of-append front (member ∷ []) in omega arith

  -- a sum is no larger than the size
  pub nat_abs-sum_of : (members : List A) → nat_abs (sum_of weight members) ≤ size_of weight members
  nat_abs-sum_of [] = omega arith
  nat_abs-sum_of (member ∷ later) =
      let here = nat_abs-add (weight member) (sum_of weight later) in
      let rest = nat_abs-sum_of later in
      omega arith
