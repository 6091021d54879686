-- What the members of a list weigh in all, and after a push. For weights that are natural numbers the same is
-- said by `sum_by-append` of std.
use Rattle.std.proofs.Common.{ℤ, ◌+ℤ◌, ◌≡◌, List, [], ◌∷◌, ◌++◌, arith}
use Rattle.std.proofs.lemmas.Int.{ints}
use Rattle.kb_sharing.specs.Sums.{sum_of}

-- two lists weigh what each weighs
pub sum_of-append : {T : Type 0} (weight : T → ℤ) (xs ys : List T)
    → sum_of weight (xs ++ ys) ≡ sum_of weight xs +ℤ sum_of weight ys
sum_of-append weight [] ys = omega (arith, ints)
sum_of-append weight (x ∷ xs) ys =
    let later = sum_of-append weight xs ys in
    omega (arith, ints)

-- another member at the end adds its weight
pub sum_of-push : {T : Type 0} (weight : T → ℤ) (xs : List T) (x : T)
    → sum_of weight (xs ++ x ∷ []) ≡ sum_of weight xs +ℤ weight x
sum_of-push weight xs x =
    let both = sum_of-append weight xs (x ∷ []) in
    omega (arith, ints)
