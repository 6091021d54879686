-- Gateways that come back, or that a market never gave.
use Rattle.std.proofs.Common.{◌≡◌, ◌≢◌, ◌⊎◌, ◌<◌, ◌≤◌, ℕ, zero, suc, List, [], ◌∷◌, ◌++◌, length, Option}
use Rattle.std.proofs.Common.{Some, Result, Ok, Err, OnOk, OnErr, inl, inr, arith, refl, ap, sym, subst, ◌∙◌}
use Rattle.std.specs.List.{slice_get}
use Rattle.kb_ports.specs.Notes.{Notes}
use Rattle.kb_gateway.specs.Told.{GatewayTold, IsUnasked, MarketTold}
use Rattle.kb_lane.specs.Lanes.{LaneValue}
use Rattle.kb_folder.specs.OneLane.{ComesBackUnasked, GatewayIsBack, GatewayIsLeft}
use Rattle.kb_folder.specs.Openings.{AreUnasked, GatewaysAreBack}
use Rattle.kb_folder.proofs.Places.{at_snoc, length_snoc, some_at, within}

-- two numbers are the same or not
either : (one other : ℕ) → (one ≡ other) ⊎ (one ≢ other)
either zero zero = inl refl
either zero (suc other) = inr (λ same. omega (arith, same))
either (suc one) zero = inr (λ same. omega (arith, same))
either (suc one) (suc other) = by_case (either one other)
  where
    by_case : (one ≡ other) ⊎ (one ≢ other) → (suc one ≡ suc other) ⊎ (suc one ≢ suc other)
    by_case (inl same) = inl (ap suc same)
    by_case (inr apart) = inr (λ same. apart (omega (arith, same)))

-- a number is below another or not
below_or_past : (one other : ℕ) → (one < other) ⊎ (other ≤ one)
below_or_past one zero = inr (omega arith)
below_or_past zero (suc other) = inl (omega arith)
below_or_past (suc one) (suc other) = by_case (below_or_past one other)
  where
    by_case : (one < other) ⊎ (other ≤ one) → (suc one < suc other) ⊎ (suc other ≤ suc one)
    by_case (inl below) = inl (omega (arith, below))
    by_case (inr past) = inr (omega (arith, past))

module _ {D G : Type 0} where
  -- none is back yet
  pub none_gateways : (old : MarketTold G) (lanes : List (LaneValue D G)) → lanes ≡ []
      → GatewaysAreBack old old lanes
  none_gateways old lanes none = subst (GatewaysAreBack old old) (sym none) (record {
    noted = λ place lane is. absurd (cc);
    others = λ place past. refl;
    calm = refl;
  })

  -- one more is back
  pub one_more_gateway : (old mid new : MarketTold G) (lanes : List (LaneValue D G)) (lane : LaneValue D G)
      → GatewaysAreBack old mid lanes → GatewayIsBack (length lanes) mid new lane.gateway
      → GatewaysAreBack old new (lanes ++ lane ∷ [])
  one_more_gateway old mid new lanes lane so_far back = record {
    noted = λ place item is. by_place place item (at_snoc lanes lane place item is);
    others = λ place past.
        let longer = length_snoc lanes lane in
        back.others place (λ same. omega (arith, same, past, longer))
        ∙ so_far.others place (omega (arith, past, longer));
    calm = back.calm ∙ so_far.calm;
  }
    where
      by_place : (place : ℕ) (item : LaneValue D G)
          → (slice_get lanes place ≡ Some item) ⊎ ((place ≡ length lanes) × (lane ≡ item))
          → Notes (old.came_back place) item.gateway (new.came_back place)
      by_place place item (inl there) =
          let inside = within lanes place item there in
          subst (λ (after : Option (List G)). Notes (old.came_back place) item.gateway after)
          (sym (back.others place (λ same. omega (arith, same, inside)))) (so_far.noted place item there)
      by_place place item (inr (end, same)) =
          subst (λ (l : LaneValue D G). Notes (old.came_back place) l.gateway (new.came_back place)) same
          (subst (λ (n : ℕ). Notes (old.came_back n) lane.gateway (new.came_back n)) (sym end)
          (subst (λ (before : Option (List G)). Notes before lane.gateway (new.came_back (length lanes)))
          (so_far.others (length lanes) (omega arith)) back.noted))

module _ {G : Type 0} (gateways : GatewayTold G) (number : ℕ) (old mid new : MarketTold G) where
  -- the market gave none
  pub none_given : ((other : ℕ) → new.came_back other ≡ old.came_back other)
      → GatewayIsLeft gateways number old new
  none_given same = record { back = inl (same number); others = λ other apart. same other }

  -- it came back as it was made
  pub back_unasked : (gateway : G) → ((other : ℕ) → mid.came_back other ≡ old.came_back other)
      → IsUnasked gateways gateway → GatewayIsBack number mid new gateway
      → GatewayIsLeft gateways number old new
  back_unasked gateway same unasked back = record {
    back = inr (
      gateway,
      subst (λ (before : Option (List G)). Notes before gateway (new.came_back number)) (same number)
          back.noted,
      unasked,
    );
    others = λ other apart. back.others other apart ∙ same other;
  }

  -- the failed calls of a market that takes one back
  pub calm_in : {A E : Type 0} (result : Result A E) (gateway : G) → mid.faults ≡ old.faults
      → OnErr result (GatewayIsBack number mid new gateway) → OnErr result (new.faults ≡ old.faults)
  calm_in (Ok done) gateway calm back = tt
  calm_in (Err fault) gateway calm back = back.calm ∙ calm

  -- others were made before it
  pub left_after : ((other : ℕ) → mid.came_back other ≡ old.came_back other)
      → GatewayIsLeft gateways number mid new → GatewayIsLeft gateways number old new
  left_after same left = record {
    back = subst (λ (before : Option (List G)). ComesBackUnasked gateways before (new.came_back number))
        (same number) left.back;
    others = λ other apart. left.others other apart ∙ same other;
  }

  pub back_unasked_in : {A E : Type 0} (result : Result A E) (gateway : G)
      → ((other : ℕ) → mid.came_back other ≡ old.came_back other) → IsUnasked gateways gateway
      → OnErr result (GatewayIsBack number mid new gateway) → OnErr result
      (GatewayIsLeft gateways number old new)
  back_unasked_in (Ok done) gateway same unasked back = tt
  back_unasked_in (Err fault) gateway same unasked back = back_unasked gateway same unasked back

module _ {D G : Type 0} (gateways : GatewayTold G) (old mid new : MarketTold G)
    (lanes : List (LaneValue D G)) where
  -- those of lanes that were opened come back with it
  pub all_left : GatewayIsLeft gateways (length lanes) old mid → AreUnasked gateways lanes
      → GatewaysAreBack mid new lanes → (number : ℕ)
      → ComesBackUnasked gateways (old.came_back number) (new.came_back number)
  all_left left unasked back number = by_case (below_or_past number (length lanes))
    where
      by_case : (number < length lanes) ⊎ (length lanes ≤ number)
          → ComesBackUnasked gateways (old.came_back number) (new.came_back number)
      by_case (inl inside) =
          let lane = some_at lanes number inside in
          inr (
            lane.0.gateway,
            subst (λ (before : Option (List G)). Notes before lane.0.gateway (new.came_back number))
                (left.others number (λ same. omega (arith, same, inside))) (back.noted number lane.0 lane.1),
            unasked number lane.0 lane.1,
          )
      by_case (inr past) = subst (ComesBackUnasked gateways (old.came_back number))
          (sym (back.others number past)) (at_end (either number (length lanes)))
        where
          at_end : (number ≡ length lanes) ⊎ (number ≢ length lanes)
              → ComesBackUnasked gateways (old.came_back number) (mid.came_back number)
          at_end (inl same) =
              subst (λ (n : ℕ). ComesBackUnasked gateways (old.came_back n) (mid.came_back n)) (sym same)
              left.back
          at_end (inr other) = inl (left.others number other)

-- lanes of which none was asked anything, and one more
module _ {D G : Type 0} (gateways : GatewayTold G) where
  pub none_unasked : (lanes : List (LaneValue D G)) → lanes ≡ [] → AreUnasked gateways lanes
  none_unasked lanes none = subst (AreUnasked gateways) (sym none) (λ place lane is. absurd (cc))

  pub one_more_unasked : (lanes more : List (LaneValue D G)) (lane : LaneValue D G)
      → more ≡ lanes ++ lane ∷ [] → IsUnasked gateways lane.gateway → AreUnasked gateways lanes
      → AreUnasked gateways more
  one_more_unasked lanes more lane is next before = subst (AreUnasked gateways) (sym is)
      (λ place item at. by_place place item (at_snoc lanes lane place item at))
    where
      by_place : (place : ℕ) (item : LaneValue D G)
          → (slice_get lanes place ≡ Some item) ⊎ ((place ≡ length lanes) × (lane ≡ item))
          → IsUnasked gateways item.gateway
      by_place place item (inl there) = before place item there
      by_place place item (inr (end, same)) =
          subst (λ (l : LaneValue D G). IsUnasked gateways l.gateway) same next

  pub one_more_unasked_in : {A E : Type 0} (lanes more : List (LaneValue D G)) (lane : LaneValue D G)
      (result : Result A E) → OnOk result (more ≡ lanes ++ lane ∷ []) → OnErr result (more ≡ lanes)
      → IsUnasked gateways lane.gateway → AreUnasked gateways lanes → AreUnasked gateways more
  one_more_unasked_in lanes more lane (Ok done) is same next before =
      one_more_unasked lanes more lane is next before
  one_more_unasked_in lanes more lane (Err fault) is same next before =
      subst (AreUnasked gateways) (sym same) before
