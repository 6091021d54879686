-- One of some lanes goes on.
use Rattle.std.proofs.Common.{◌≡◌, ◌<◌, ℕ, zero, suc, List, [], ◌∷◌, length, get_or, set, Some, arith, refl}
use Rattle.std.proofs.Common.{sym, ap, subst}
use Rattle.std.specs.List.{slice_get}
use Rattle.kb_desk.specs.Places.{GoesAt}

-- the item at a place is found there
pub found_at : {L : Type 0} (items : List L) (place : ℕ) (item : L) → place < length items
    → item ≡ get_or items place item → slice_get items place ≡ Some item
found_at [] place item inside is = absurd (omega (arith, inside))
found_at (first ∷ later) zero item inside is = ap (λ it. Some it) (sym is)
found_at (first ∷ later) (suc place) item inside is = found_at later place item (omega (arith, inside)) is

pub goes_at : {L : Type 0} (Goes : L → L → Type 0) (items : List L) (place : ℕ) (item next : L)
    → place < length items → item ≡ get_or items place item → Goes item next
    → GoesAt Goes place items (set items place next)
goes_at Goes items place item next inside is goes = (
  item,
  next,
  found_at items place item inside
      is,
  refl,
  goes,
)

-- the item that is read at a place is found where it is wanted
pub lane_there : {L : Type 0} (items : List L) (place : ℕ) (item : L) (wanted : ℕ) → place < length items
    → item ≡ get_or items place item → place ≡ wanted → slice_get items wanted ≡ Some item
lane_there items place item wanted inside is same =
    subst (λ at. slice_get items at ≡ Some item) same (found_at items place item inside is)
