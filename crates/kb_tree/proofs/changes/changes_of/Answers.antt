-- From one change of the charge or the due cell to the next.
use Rattle.std.proofs.Common.{◌<◌, ◌≤◌, map, arith}
use Rattle.kb_base.specs.Runs.{values_on}
use Rattle.kb_days.specs.Calendar.{first_day}
use Rattle.kb_due.specs.CellStretches.{stretch_of}
use Rattle.kb_tree.specs.Covers.{due_in}
use Rattle.kb_tree.proofs.InOrder.{IsRest-all}
use Rattle.kb_tree.proofs.WalkedDays.{IsRest-first, IsRest-next, IsRest-value, IsRest-value_in}
use Rattle.kb_tree.proofs.WalkedDays.{AreChanges-first, AreChanges-next}
use Rattle.kb_tree.proofs.changes.changes_of.Goals as goal

pub loop-charges-init : goal.loop-charges-init
loop-charges-init c =
    rw (c.first_charged-day.ensures, c.new.ensures.items, c.new-2.ensures.items) (
      omega arith,
      omega arith,
      IsRest-first first_day c.args.live.now c.requires.live,
      IsRest-all first_day (map stretch_of c.args.pieces.now) c.requires.pieces,
      AreChanges-first (λ day. values_on day c.args.live.now) (due_in (map stretch_of c.args.pieces.now)),
    )

pub loop-charges-preserved : goal.loop-charges-preserved
loop-charges-preserved c =
    let walk = c.loop-charges.invariant in
    let day = c.loop-charges.day in
    let next = c.earlier-next.result in
    let live = map (λ days. days) c.loop-charges.charges.now in
    let due = map stretch_of c.loop-charges.due.now in
    let later : day < next =
    c.earlier-next.ensures.greatest day c.next_change.ensures.later
    c.next_change-in-loop-charges.ensures.later in
    let first : next ≤ c.next_change.result = c.earlier-next.ensures.first in
    let second : next ≤ c.next_change-in-loop-charges.result = c.earlier-next.ensures.second in
    rw (c.in_ok-push_change.ensures.repairs, c.in_ok-push_change.ensures.bills) (
      omega (arith, walk.0, later),
      omega (arith, first, c.next_change.ensures.within),
      IsRest-next c.args.live.now live (map (λ days. days) c.passed-charges.result.now) day next
          (omega (arith, later)) walk.2 c.passed-charges.ensures.ahead c.passed-charges.ensures.same,
      IsRest-next (map stretch_of c.args.pieces.now) due (map stretch_of c.passed-due.result.now) day next
          (omega (arith, later)) walk.3 c.passed-due.ensures.ahead c.passed-due.ensures.same,
      AreChanges-next (λ day. values_on day c.args.live.now) (due_in (map stretch_of c.args.pieces.now)) day
          next c.loop-charges.found.repairs.items c.loop-charges.found.bills.items c.value_at-charge.result
          c.value_at-cell.result walk.0 later
          (λ d low high. IsRest-value c.args.live.now live day c.next_change.result c.value_at-charge.result
          walk.2 c.value_at-charge.ensures c.next_change.ensures.steady d low (omega (arith, high, first)))
          (λ d low high. IsRest-value_in (map stretch_of c.args.pieces.now) due day
          c.next_change-in-loop-charges.result c.value_at-cell.result walk.3 c.value_at-cell.ensures
          c.next_change-in-loop-charges.ensures.steady d low (omega (arith, high, second)))
          walk.4,
    )
