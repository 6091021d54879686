-- Integers: the greater and the less of two, and how large one is without its sign.
use Rattle.std.proofs.Common.{◌≡◌, ℕ, ◌+◌, ◌≤◌, ℤ, pos, negsuc, neg_ℤ, ◌+ℤ◌}
use Rattle.std.proofs.Common.{◌≤ℤ◌, nat_abs, refl, arith}
use Rattle.std.proofs.lemmas.Int.{ints}

-- a number is at most its size, and at least that with a minus
pub nat_abs-most : (z : ℤ) → z ≤ℤ pos (nat_abs z)
nat_abs-most (pos n) = omega (arith, ints)
nat_abs-most (negsuc n) = omega (arith, ints)

pub nat_abs-least : (z : ℤ) → neg_ℤ (pos (nat_abs z)) ≤ℤ z
nat_abs-least (pos n) = omega (arith, ints)
nat_abs-least (negsuc n) = omega (arith, ints)

-- the size is at most a bound, if the number lies between it and that with a minus
pub nat_abs-between : (z : ℤ) (bound : ℕ) → z ≤ℤ pos bound → neg_ℤ (pos bound) ≤ℤ z → nat_abs z ≤ bound
nat_abs-between (pos n) bound most least = omega (arith, ints)
nat_abs-between (negsuc n) bound most least = omega (arith, ints)

-- the size of a sum
pub nat_abs-add : (a b : ℤ) → nat_abs (a +ℤ b) ≤ nat_abs a + nat_abs b
nat_abs-add a b =
    nat_abs-between (a +ℤ b) (nat_abs a + nat_abs b)
    (omega (arith, ints, nat_abs-most a, nat_abs-most b))
    (omega (arith, ints, nat_abs-least a, nat_abs-least b))

-- nothing is added
pub add_none : (z : ℤ) → z +ℤ pos 0 ≡ z
add_none z = omega (arith, ints)

-- a number that isn't negative is its size
pub nat_abs-pos : (z : ℤ) → pos 0 ≤ℤ z → pos (nat_abs z) ≡ z
nat_abs-pos (pos n) whole = refl
nat_abs-pos (negsuc n) whole = omega (arith, ints)
