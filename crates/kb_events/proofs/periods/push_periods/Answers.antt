-- Each period is told after those before it, until one begins after the billed date. Without a rate no day
-- has a cell.
use Rattle.std.proofs.Common.{rules, Some, ◌<◌, ◌≤◌, ap, sym, subst, ◌∙◌, map, arith}
use Rattle.kb_due.specs.CellStretches.{stretch_of}
use Rattle.kb_events.specs.Private.Shorts.{AreShort}
use Rattle.kb_events.proofs.InCells.{push_run-short}
use Rattle.kb_events.proofs.PeriodRuns.{runs-none, runs-late, runs-period}
use Rattle.kb_events.proofs.periods.push_periods.Goals as goal

pub returns-in_default-clause-value : goal.returns-in_default-clause-value
returns-in_default-clause-value c key first within told so_far =
    runs-none c.args.facts.now c.args.subscription.now c.args.governing.now c.args.billed c.args.from
    c.args.to first key within told
    c.args.from (map stretch_of c.args.found.now.items) (omega arith) c.requires.in_order
    (sym (rw c.in_default.is at (c.rate_by.ensures.value c.args.from))) so_far

pub returns-then-lt-clause-value : goal.returns-then-lt-clause-value
returns-then-lt-clause-value c key first within told so_far =
    let walk = c.loop-billed.invariant in
    let rate = c.in-Some.ensures.rate in
    let late : c.args.billed < c.cell-cell.result.start = search rules in
    runs-late c.args.facts.now c.args.subscription.now c.args.governing.now c.args.billed c.args.from
    c.args.to first key within told
    c.loop-billed.day c.cell-cell.result (map stretch_of c.loop-billed.found.items) walk.0 walk.1
    (rw (rate.start, rate.period, rate.bcd) at c.cell-cell.ensures.period) late
    (walk.2 key first within told so_far)

pub loop-billed-smaller : goal.loop-billed-smaller
loop-billed-smaller c =
    let before : c.loop-billed.day < c.args.to = search rules in
    let some : c.loop-billed.day < c.earlier-next.result =
    c.earlier-next.ensures.greatest c.loop-billed.day c.cell-cell.ensures.has_day.1 before in
    let inside : c.earlier-next.result ≤ c.args.to = c.earlier-next.ensures.second in
    omega (arith, some, inside)

pub loop-billed-preserved : goal.loop-billed-preserved
loop-billed-preserved c =
    let walk = c.loop-billed.invariant in
    let rate = c.in-Some.ensures.rate in
    let cell = c.cell-cell.result in
    let period = rw (rate.start, rate.period, rate.bcd) at c.cell-cell.ensures.period in
    let is = sym (rw c.in-Some.is at (c.rate_by.ensures.value c.loop-billed.day))
    ∙ ap Some (sym c.cell-cell.ensures.value) in
    let begun : cell.start ≤ c.args.billed = search rules in
    let before : c.loop-billed.day < c.args.to = search rules in
    let some : c.loop-billed.day < c.earlier-next.result =
    c.earlier-next.ensures.greatest c.loop-billed.day c.cell-cell.ensures.has_day.1 before in
    let inside : c.earlier-next.result ≤ c.args.to = c.earlier-next.ensures.second in
    let within_period : c.earlier-next.result ≤ cell.end = c.earlier-next.ensures.first in (
      omega (arith, walk.0, some),
      inside,
      (λ key first within told so_far.
          c.in_ok-push_run.ensures
          ∙ runs-period c.args.facts.now c.args.subscription.now c.args.governing.now c.args.billed
          c.args.from c.args.to first key within told
          c.loop-billed.day c.earlier-next.result cell (map stretch_of c.loop-billed.found.items)
          walk.0 some inside within_period is period c.cell-cell.ensures.longest
          begun (walk.2 key first within told so_far)),
      (λ so_far.
          subst AreShort (sym c.in_ok-push_run.ensures)
          (push_run-short (map stretch_of c.loop-billed.found.items) c.loop-billed.day c.earlier-next.result
          cell (walk.3 so_far)
          c.cell-cell.ensures.longest)),
    )
