-- Lanes that take no command any more.
use Rattle.std.specs.Prelude.{ℕ, ◌≡◌, Bool, false, List, [], refl}
use Rattle.std.specs.List.{list_any}
use Rattle.kb_lane.specs.Lanes.{LaneValue}

-- an append failed on one of some lanes
abbrev pub any_stopped : {D G : Type 0} → List (LaneValue D G) → Bool
any_stopped lanes = list_any (λ lane. lane.log.journal.stopped) lanes

none_of_no_lanes : any_stopped {D = ℕ} {G = ℕ} [] ≡ false
none_of_no_lanes = refl
