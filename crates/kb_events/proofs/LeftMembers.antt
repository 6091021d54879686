-- The members that are left behind a place.
use Rattle.std.proofs.Common.{◌≡◌, ℕ, suc, ◌+◌, ◌<◌, List, ◌∷◌, length, drop, get_or, sym, ap, ◌∙◌, arith}
use Rattle.std.proofs.Math.Seq.{drop-cons}

-- they begin with the one at the place
pub drop-member : {A : Type 0} (members : List A) (place : ℕ) (member : A) → place < length members
    → member ≡ get_or members place member
    → drop place members ≡ member ∷ drop (place + 1) members
drop-member members place member h e =
    let one : suc place ≡ place + 1 = omega arith in
    drop-cons members place member h ∙ ap (λ first. first ∷ drop (suc place) members) (sym e)
    ∙ ap (λ at. member ∷ drop at members) one
