use Rattle.std.proofs.Common.{◌<◌, ◌≤◌, ◌+◌, ◌-◌, ◌≡◌, arith}
use Rattle.kb_days.proofs.TwoYears.{mark-longest}
use Rattle.kb_align.proofs.OneMonth.{period-before, period-after}
use Rattle.kb_align.proofs.periods.period_of_one_month.Goals as goal

pub returns-then-lt-clause-period : goal.returns-then-lt-clause-period
returns-then-lt-clause-period c =
    let month = c.month_of-month in
    let marked = rw month.ensures.value at c.mark-marked.ensures.value in
    let early : c.args.day < c.mark-marked.result = grind arith in
    rw (c.mark.ensures.value, c.mark-marked.ensures.value)
    (period-before c.args.start c.args.bcd c.args.day month.result (omega (arith, month.ensures.first))
    month.ensures.value (omega (arith, marked, early)))

pub returns-then-lt-clause-longest : goal.returns-then-lt-clause-longest
returns-then-lt-clause-longest c =
    let month = c.month_of-month in
    let here : month.result - 1 + 1 ≡ month.result = omega (arith, month.ensures.first) in
    let longest = rw here at (mark-longest (month.result - 1) 1 c.args.bcd (omega arith)) in
    omega (arith, longest, c.mark.ensures.value, c.mark-marked.ensures.value)

pub returns-else-lt-clause-period : goal.returns-else-lt-clause-period
returns-else-lt-clause-period c =
    let month = c.month_of-month in
    let marked = rw month.ensures.value at c.mark-marked.ensures.value in
    let late : c.mark-marked.result ≤ c.args.day = grind arith in
    rw (c.mark-marked.ensures.value, c.mark-else-lt.ensures.value)
    (period-after c.args.start c.args.bcd c.args.day month.result month.ensures.value
    (omega (arith, marked, late)))

pub returns-else-lt-clause-longest : goal.returns-else-lt-clause-longest
returns-else-lt-clause-longest c =
    let longest = mark-longest c.month_of-month.result 1 c.args.bcd (omega arith) in
    omega (arith, longest, c.mark-marked.ensures.value, c.mark-else-lt.ensures.value)
