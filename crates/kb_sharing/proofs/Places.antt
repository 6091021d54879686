-- Where a member of two lists stands that follow each other.
use Rattle.std.proofs.Common.{ℕ, zero, suc, ◌≡◌, ◌-◌, ◌<◌, ◌≤◌, List, [], ◌∷◌, ◌++◌, length, refl}
use Rattle.std.proofs.Common.{slice_get, arith}
use native.Mathlib.Numerals.{unary_clauses}

-- a member of the first list
pub slice_get-append_left : {X : Type 0} (xs ys : List X) (place : ℕ)
    → place < length xs → slice_get (xs ++ ys) place ≡ slice_get xs place
slice_get-append_left [] ys place before = absurd (omega arith)
slice_get-append_left (x ∷ xs) ys zero before = refl
slice_get-append_left (x ∷ xs) ys (suc place) before = slice_get-append_left xs ys place (omega arith)

-- a member of the second list
pub slice_get-append_right : {X : Type 0} (xs ys : List X) (place : ℕ)
    → length xs ≤ place → slice_get (xs ++ ys) place ≡ slice_get ys (place - length xs)
slice_get-append_right [] ys place behind = simp unary_clauses
slice_get-append_right (x ∷ xs) ys zero behind = absurd (omega arith)
slice_get-append_right (x ∷ xs) ys (suc place) behind =
    simp unary_clauses (slice_get-append_right xs ys place (omega arith))
