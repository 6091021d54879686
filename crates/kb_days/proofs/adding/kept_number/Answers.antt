use Rattle.std.proofs.Common.{arith}
use Rattle.kb_days.specs.Calendar.{month_of}
use Rattle.kb_days.proofs.Months.{month_length-high}
use Rattle.kb_days.proofs.adding.kept_number.Goals as goal

pub within-requires-clause-last : goal.within-requires-clause-last
within-requires-clause-last c = omega (arith, month_length-high (month_of c.args.day))
