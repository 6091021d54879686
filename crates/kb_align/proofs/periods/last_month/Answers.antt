use Rattle.std.proofs.Common.{◌≤◌, ◌+◌, ap, arith}
use Rattle.kb_align.proofs.FirstMonths.{IsFirstMonth-later}
use Rattle.kb_align.proofs.periods.last_month.Goals as goal

pub returns-else-lt-clause-next : goal.returns-else-lt-clause-next
returns-else-lt-clause-next c =
    let month = c.month_of-month in
    let marked = rw month.ensures.value at c.mark.ensures.value in
    let late : c.mark.result ≤ c.args.day = grind arith in
    IsFirstMonth-later c.args.day c.args.bcd (month.result + 1) (ap (λ n. n + 1) month.ensures.value)
    (omega (arith, marked, late))
