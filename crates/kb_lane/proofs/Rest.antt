-- What is left of a list from a place on.
use Rattle.std.proofs.Common.{◌≡◌, ◌≤◌, ◌<◌, ℕ, zero, suc, List, [], ◌∷◌, length, get_or, drop, arith, refl}
use Rattle.std.proofs.Common.{sym, ap}

-- the item at a place stands in front of those behind it
pub next_item : {A : Type 0} (items : List A) (place : ℕ) (item : A) → place < length items
    → item ≡ get_or items place item → drop place items ≡ item ∷ drop (suc place) items
next_item [] place item inside is = absurd (omega (arith, inside))
next_item (first ∷ later) zero item inside is = ap (λ it. it ∷ later) (sym is)
next_item (first ∷ later) (suc place) item inside is = next_item later place item (omega (arith, inside)) is

-- at the end of a list nothing is left, and all was taken
pub all_done : {A : Type 0} (items : List A) (place : ℕ) → length items ≤ place → drop place items ≡ []
all_done [] zero done = refl
all_done [] (suc place) done = refl
all_done (first ∷ later) zero done = absurd (omega (arith, done))
all_done (first ∷ later) (suc place) done = all_done later place (omega (arith, done))
