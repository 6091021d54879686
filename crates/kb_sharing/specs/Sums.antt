-- Sums over the members of a list.
use Rattle.std.specs.Prelude.{ℤ, pos, ◌+ℤ◌, negsuc, ◌≡◌, List, [], ◌∷◌, refl}

-- what the members of a list weigh in all
abbrev pub sum_of : {T : Type 0} → (T → ℤ) → List T → ℤ
sum_of weight [] = pos 0
sum_of weight (member ∷ members) = weight member +ℤ sum_of weight members

a_payment_and_its_refund : sum_of (λ amount. amount) (pos 900 ∷ negsuc 249 ∷ []) ≡ pos 650
a_payment_and_its_refund = refl
