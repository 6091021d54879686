-- Sizes of the members of a list: how much they weigh together if each is taken without its sign.
use Rattle.std.specs.Prelude.{ℕ, zero, ◌+◌, List, [], ◌∷◌, ℤ, pos, negsuc, nat_abs, ◌≡◌, refl}

-- what the members weigh together, each without its sign
abbrev pub size_of : {A : Type 0} → (A → ℤ) → List A → ℕ
size_of weight [] = zero
size_of weight (member ∷ later) = nat_abs (weight member) + size_of weight later

two_and_three : size_of (λ (n : ℤ). n) (pos 2 ∷ negsuc 2 ∷ []) ≡ 5
two_and_three = refl
