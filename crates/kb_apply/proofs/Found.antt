-- What stands at the places of lists.
use Rattle.std.proofs.Common.{◌≡◌, ℕ, zero, suc, Bool, true, false, List, [], ◌∷◌, length, Some}
use Rattle.std.specs.Prelude.{◌||◌}
use Rattle.std.proofs.Common.{refl, subst, arith, true≢false}
use Rattle.std.specs.List.{slice_get}
use Rattle.kb_lane.specs.Lanes.{LaneValue}
use Rattle.kb_desk.specs.Stops.{any_stopped}

-- an item at a place has one at the same place of a list as long
pub found_beside : {A B : Type 0} (items : List A) (others : List B) (place : ℕ) (item : A)
    → slice_get items place ≡ Some item → length items ≡ length others
    → (other : B) × (slice_get others place ≡ Some other)
found_beside [] others place item is same = absurd (cc)
found_beside (first ∷ later) [] place item is same = absurd (omega (arith, same))
found_beside (first ∷ later) (other ∷ others) zero item is same = (other, refl)
found_beside (first ∷ later) (other ∷ others) (suc place) item is same =
    found_beside later others place item is (omega (arith, same))

-- none of some lanes has stopped
pub none_stopped : {D G : Type 0} (lanes : List (LaneValue D G)) → any_stopped lanes ≡ false → (place : ℕ)
    (lane : LaneValue D G) → slice_get lanes place ≡ Some lane → lane.log.journal.stopped ≡ false
none_stopped [] none place lane is = absurd (cc)
none_stopped (first ∷ later) none place lane is =
    by_first first.log.journal.stopped refl place is (λ rest. none_stopped later rest)
  where
    running : (stopped : Bool) → first.log.journal.stopped ≡ stopped → (stopped || any_stopped later) ≡ false
    running stopped first_is = subst (λ (b : Bool). (b || any_stopped later) ≡ false) first_is none

    by_first : (stopped : Bool) → first.log.journal.stopped ≡ stopped → (place : ℕ)
        → slice_get (first ∷ later) place ≡ Some lane
        → (any_stopped later ≡ false → (place : ℕ) (lane : LaneValue _ _) → slice_get later place ≡ Some lane
        → lane.log.journal.stopped ≡ false) → lane.log.journal.stopped ≡ false
    by_first true first_is place is others = absurd (true≢false (running true first_is))
    by_first false first_is zero is others = let same : first ≡ lane = cc in rw (← same) first_is
    by_first false first_is (suc place) is others = others (running false first_is) place lane is
