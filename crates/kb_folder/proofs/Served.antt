-- Lanes whose gateways serve them.
use Rattle.std.proofs.Common.{◌≡◌, ◌⊎◌, ℕ, List, [], ◌∷◌, ◌++◌, length, Some, inl, inr, Result, Ok, Err}
use Rattle.std.proofs.Common.{OnOk, sym, subst}
use Rattle.std.specs.List.{slice_get}
use Rattle.kb_lane.specs.Lanes.{LaneValue}
use Rattle.kb_folder.specs.Openings.{AreServed}
use Rattle.kb_folder.proofs.Places.{at_snoc}

module _ {D G : Type 0} (serves : G → ℕ → Type 0) where
  -- no lane is open yet
  pub none_served : (lanes : List (LaneValue D G)) → lanes ≡ [] → AreServed serves lanes
  none_served lanes none = subst (AreServed serves) (sym none) (λ place lane is. absurd (cc))

  snoc : (lanes : List (LaneValue D G)) (lane : LaneValue D G) → AreServed serves lanes
      → serves lane.gateway (length lanes) → AreServed serves (lanes ++ lane ∷ [])
  snoc lanes lane before next place item is = by_place (at_snoc lanes lane place item is)
    where
      by_place : (slice_get lanes place ≡ Some item) ⊎ ((place ≡ length lanes) × (lane ≡ item))
          → serves item.gateway place
      by_place (inl there) = before place item there
      by_place (inr (end, same)) = subst (λ (l : LaneValue D G). serves l.gateway place) same
          (subst (λ (n : ℕ). serves lane.gateway n) (sym end) next)

  -- one lane more is open
  pub one_more_served : (lanes more : List (LaneValue D G)) (lane : LaneValue D G) (number : ℕ)
      → more ≡ lanes ++ lane ∷ [] → length lanes ≡ number → serves lane.gateway number
      → AreServed serves lanes → AreServed serves more
  one_more_served lanes more lane number is next served before =
      subst (AreServed serves) (sym is)
      (snoc lanes lane before (subst (λ (n : ℕ). serves lane.gateway n) (sym next) served))

  -- where it could be added
  pub one_more_served_in : {A E : Type 0} (lanes more : List (LaneValue D G)) (lane : LaneValue D G)
      (number : ℕ) (result : Result A E) → OnOk result (more ≡ lanes ++ lane ∷ []) → length lanes ≡ number
      → serves lane.gateway number → AreServed serves lanes → OnOk result (AreServed serves more)
  one_more_served_in lanes more lane number (Ok done) is next served before =
      one_more_served lanes more lane number is next served before
  one_more_served_in lanes more lane number (Err fault) is next served before = tt
