-- What one of some lanes does, with the clock beside it.
use Rattle.std.proofs.Common.{◌≡◌, ℕ, Bool, List, refl, ap, subst}
use Rattle.std.specs.Prelude.{◌||◌}
use Rattle.kb_lane.specs.Lanes.{LaneValue}
use Rattle.kb_desk.specs.Places.{GoesAt}
use Rattle.kb_apply.specs.LaneRuns.{LanesValue}

pub beside : {D G C : Type 0} (Goes : LaneValue D G → LaneValue D G → Type 0) (place : ℕ)
    (inside now : LanesValue D G C) (lanes : List (LaneValue D G)) (told full : Bool) → inside ≡ now
    → told ≡ full → GoesAt Goes place inside.lanes lanes
    → GoesAt Goes place now.lanes lanes × (inside.clock ≡ now.clock)
    × ((inside.full || told) ≡ (now.full || full))
beside Goes place inside now lanes told full is same goes =
    subst (λ v. GoesAt Goes place v.lanes lanes × (inside.clock ≡ v.clock)
    × ((inside.full || told) ≡ (v.full || full))) is (goes, refl, ap (λ f. inside.full || f) same)
