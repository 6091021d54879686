-- A month has at most 31 days.
use Rattle.std.proofs.Common.{arith}
use Rattle.kb_days.specs.Calendar.{month_of}
use Rattle.kb_days.proofs.Months.{month_length-high}
use Rattle.kb_due.proofs.cycle_day.number_in_month.Goals as goal

pub unwrap-requires : goal.unwrap-requires
unwrap-requires c =
    c.new.ensures.accepted.1 (
      c.day_of_month.ensures.first,
      omega (arith, c.day_of_month.ensures.last, month_length-high (month_of c.args.day)),
    )
