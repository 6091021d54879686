-- Longest runs are in order, and no more of them than days.
use Rattle.std.proofs.Common.{ℕ, zero, suc, ◌+◌, ◌≤◌, Bool, ◌==◌, ◌&&◌, List, [], ◌∷◌}
use Rattle.std.proofs.Common.{Option, Some, None, length, refl, arith}
use Rattle.std.proofs.lemmas.Bool.{cond_both}
use Rattle.kb_base.specs.Runs.{Stretch, runs, with_day, IsSame, AreRuns}
use Rattle.kb_base.proofs.Tiled.{runs-are-to}
use Rattle.kb_days.specs.Calendar.{first_day, charged_days, end_of_days}
use Rattle.kb_due.specs.declared.cell.Cell.{Cell}
use Rattle.kb_tree.specs.Covers.{AreInOrder}
use Rattle.kb_tree.specs.Private.LeftCharges.{billed_from}

module _ {V : Type 0} (same : V → V → Bool) (key : ℕ → Option V) where
  -- the longest runs are in order
  pub AreRuns-in_order : (day end : ℕ) (stretches : List (Stretch V)) → day ≤ end
      → AreRuns same key day end stretches → AreInOrder day end stretches
  AreRuns-in_order day end [] order are = order
  AreRuns-in_order day end (first ∷ later) order are = (
    are.0.begins,
    are.0.some_day,
    AreRuns-in_order first.to end later are.0.ends are.3,
  )

  -- those over all days too
  pub runs-in_order : IsSame same → AreInOrder first_day end_of_days (runs same key first_day charged_days)
  runs-in_order is =
      AreRuns-in_order first_day end_of_days (runs same key first_day charged_days) (omega arith)
      (runs-are-to same key is first_day charged_days end_of_days refl)

  -- a day more makes one run more at most
  with_day-length : (day : ℕ) (found : Option V) (later : List (Stretch V))
      → length (with_day same day found later) ≤ length later + 1
  with_day-length day None later = omega arith
  with_day-length day (Some value) [] = omega arith
  with_day-length day (Some value) (next ∷ later) =
      cond_both ((next.from == day + 1) && same value next.value) _ _
      (λ (found : List (Stretch V)). length found ≤ length (next ∷ later) + 1)
      (λ _. omega arith) (λ _. omega arith)

  -- there are no more runs than days
  pub runs-length : (day count : ℕ) → length (runs same key day count) ≤ count
  unfolding runs
  runs-length day zero = omega arith
  runs-length day (suc count) =
      let rest = runs-length (day + 1) count in
      let more = with_day-length day (key day) (runs same key (day + 1) count) in omega (arith, rest, more)

-- bills are in order where their stretches are
pub billed_from-in_order : (number from end : ℕ) (bills : List (Stretch Cell)) → AreInOrder from end bills
    → AreInOrder from end (billed_from number bills)
billed_from-in_order number from end [] order = order
billed_from-in_order number from end (bill ∷ later) order =
    (order.0, order.1, billed_from-in_order (number + 1) bill.to end later order.2)
