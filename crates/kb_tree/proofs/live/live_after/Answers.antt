-- From one change of the charge, the repair or the bill to the next.
use Rattle.std.proofs.Common.{◌<◌, ◌≤◌, map, arith}
use Rattle.kb_days.specs.Calendar.{first_day}
use Rattle.kb_tree.proofs.WalkedDays.{IsRest-first, IsRest-next, IsRest-value_in, charge_on-first}
use Rattle.kb_tree.proofs.WalkedDays.{charge_on-next}
use Rattle.kb_tree.proofs.live.live_after.Goals as goal

pub loop-before-init : goal.loop-before-init
loop-before-init c =
    rw (c.first_charged-day.ensures, c.new-found.ensures.items) (
      omega arith,
      omega arith,
      IsRest-first first_day c.args.live.now c.requires.live,
      IsRest-first first_day c.args.repairs.now c.requires.repairs,
      IsRest-first first_day c.args.bills.now c.requires.bills,
      charge_on-first c.args.live.now c.args.repairs.now c.args.bills.now,
    )

pub loop-before-preserved : goal.loop-before-preserved
loop-before-preserved c =
    let walk = c.loop-before.invariant in
    let day = c.loop-before.day in
    let next = c.earlier-next.result in
    let live = map (λ days. days) c.loop-before.before.now in
    let repairs = map (λ days. days) c.loop-before.repaired.now in
    let bills = map (λ days. days) c.loop-before.billed.now in
    let change : day < c.earlier-change.result =
    c.earlier-change.ensures.greatest day c.next_change.ensures.later
    c.next_change-in-loop-before.ensures.later in
    let later : day < next =
    c.earlier-next.ensures.greatest day change c.next_change-in-loop-before-2.ensures.later in
    let ends : next ≤ c.next_change.result =
    omega (arith, c.earlier-next.ensures.first, c.earlier-change.ensures.first) in
    let ends_second : next ≤ c.next_change-in-loop-before.result =
    omega (arith, c.earlier-next.ensures.first, c.earlier-change.ensures.second) in
    let ends_third : next ≤ c.next_change-in-loop-before-2.result = c.earlier-next.ensures.second in
    let onward : day ≤ next = omega (arith, later) in
    rw (c.in_ok-push_run.ensures, c.charge_after-charge.ensures) (
      omega (arith, walk.0, later),
      omega (arith, ends, c.next_change.ensures.within),
      IsRest-next c.args.live.now live (map (λ days. days) c.passed-before.result.now) day next
          onward walk.2 c.passed-before.ensures.ahead c.passed-before.ensures.same,
      IsRest-next c.args.repairs.now repairs (map (λ days. days) c.passed-repaired.result.now) day next
          onward walk.3 c.passed-repaired.ensures.ahead c.passed-repaired.ensures.same,
      IsRest-next c.args.bills.now bills (map (λ days. days) c.passed-billed.result.now) day next
          onward walk.4 c.passed-billed.ensures.ahead c.passed-billed.ensures.same,
      charge_on-next c.args.live.now c.args.repairs.now c.args.bills.now day next c.loop-before.found.items
          c.value_at.result c.value_at-in-loop-before.result c.value_at-in-loop-before-2.result walk.0 later
          (λ d low high. IsRest-value_in c.args.live.now live day c.next_change.result c.value_at.result
          walk.2 c.value_at.ensures c.next_change.ensures.steady d low (omega (arith, high, ends)))
          (λ d low high. IsRest-value_in c.args.repairs.now repairs day c.next_change-in-loop-before.result
          c.value_at-in-loop-before.result walk.3 c.value_at-in-loop-before.ensures
          c.next_change-in-loop-before.ensures.steady d low (omega (arith, high, ends_second)))
          (λ d low high. IsRest-value_in c.args.bills.now bills day c.next_change-in-loop-before-2.result
          c.value_at-in-loop-before-2.result walk.4 c.value_at-in-loop-before-2.ensures
          c.next_change-in-loop-before-2.ensures.steady d low (omega (arith, high, ends_third)))
          walk.5,
    )
