use Rattle.std.proofs.Common.{arith}
use Rattle.kb_align.proofs.Neighbours.{month_boundaries}
use Rattle.kb_days.proofs.TwoYears.{mark-longest}
use Rattle.kb_align.proofs.periods.period_of_months.Goals as goal

pub returns-clause-period : goal.returns-clause-period
returns-clause-period c =
    let month = c.last_whole-month in
    rw (c.mark.ensures.value, c.mark-2.ensures.value)
    (month_boundaries c.args.months c.args.start c.args.bcd c.args.day c.first_month.result month.result
    c.last_month.result c.requires.some_month c.first_month.ensures.first c.last_month.ensures.next
    month.ensures.whole month.ensures.before month.ensures.next)

pub returns-clause-longest : goal.returns-clause-longest
returns-clause-longest c =
    let longest = mark-longest c.last_whole-month.result c.args.months c.args.bcd c.requires.two_years in
    omega (arith, longest, c.mark.ensures.value, c.mark-2.ensures.value)
