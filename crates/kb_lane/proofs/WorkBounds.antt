-- How much work a lane has left at most.
use Rattle.std.proofs.Common.{ℕ, ◌+◌, ◌*◌, ◌≤◌, List, [], ◌∷◌, length, sum_by, arith}
use Rattle.std.proofs.lemmas.List.Sums.{sum_by-cons}
use Rattle.kb_histories.proofs.BoundedBooks.{replayed_work_is_bounded}
use Rattle.kb_lane.specs.declared.work.Work.{Work}
use Rattle.kb_lane.specs.declared.work.Work.TheVariants.{Ask, Check}
use Rattle.kb_lane.specs.LaneWork.{entry_work, is_named}
use Rattle.kb_lane.specs.WorkBounds.{LaneWorkIsBounded}

-- no entry takes more than two steps
pub entries-few : (outbox : List Work) → sum_by entry_work outbox ≤ 2 * length outbox
entries-few [] = omega arith
entries-few (Check account ∷ later) = omega (
  arith,
  sum_by-cons entry_work (Check account) later,
  entries-few later,
)
entries-few (Ask account key ∷ later) =
    omega (arith, sum_by-cons entry_work (Ask account key) later, entries-few later)

pub lane_work_is_bounded : LaneWorkIsBounded
lane_work_is_bounded today outbox history =
    added _ _ _ _ _ (entries-few outbox) (replayed_work_is_bounded history today (is_named outbox))
  where
    added : (entries own few most more : ℕ) → entries ≤ few → own ≤ most + more
        → entries + own ≤ few + most + more
    added entries own few most more one other = omega (arith, one, other)
