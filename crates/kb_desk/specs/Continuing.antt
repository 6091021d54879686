-- Lanes that go on, whatever is done.
use Rattle.std.specs.Prelude.{ℕ, ◌≡◌, Bool, List, length, Some}
use Rattle.std.specs.List.{slice_get}
use Rattle.kb_lane.specs.Lanes.{LaneValue, StaysItself}
use Rattle.kb_lane.specs.Going.{GoesWell}

-- What a lane keeps in each call: its history goes on; at each moment, each image of its disk stands for
-- what it may; and it stays the lane that it is.
pub record Continues {D G : Type 0} (honest : D → Bool) (moment : D → ℕ)
    (left_since : D → ℕ → List ℕ → Type 0)
    (fault_count : D → ℕ) (old new : LaneValue D G) : Type 0 where
  pub well : GoesWell honest moment left_since old.log new.log
  pub itself : StaysItself honest fault_count old new

-- As many lanes go on, each at its place.
pub record ContinueAll {L : Type 0} (Goes : L → L → Type 0) (old new : List L) : Type 0 where
  pub count : length new ≡ length old
  pub each : (place : ℕ) (lane : L) → slice_get old place ≡ Some lane
      → (next : L) × (slice_get new place ≡ Some next) × Goes lane next
