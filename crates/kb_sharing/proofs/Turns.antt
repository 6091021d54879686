-- A tree that is turned has its entries as before.
use Rattle.std.proofs.Common.{◌≡◌, List, ◌∷◌, ◌++◌, append_assoc}

-- the entries of a first tree and an entry, in either order of putting them together
pub turn : {X : Type 0} (xs ys zs : List X) (x y : X) → (xs ++ x ∷ ys) ++ y ∷ zs ≡ xs ++ x ∷ (ys ++ y ∷ zs)
turn xs ys zs x y = append_assoc xs (x ∷ ys) (y ∷ zs)
