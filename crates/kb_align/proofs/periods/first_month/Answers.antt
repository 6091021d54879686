use Rattle.std.proofs.Common.{◌<◌, ◌+◌, ap, arith}
use Rattle.kb_align.proofs.FirstMonths.{IsFirstMonth-next}
use Rattle.kb_align.proofs.periods.first_month.Goals as goal

pub returns-then-lt : goal.returns-then-lt
returns-then-lt c =
    let month = c.month_of-month in
    let marked = rw month.ensures.value at c.mark.ensures.value in
    let early : c.mark.result < c.args.day = grind arith in
    record {
      first =
          IsFirstMonth-next c.args.day c.args.bcd (month.result + 1) (ap (λ n. n + 1) month.ensures.value)
          (omega (arith, marked, early));
    }
