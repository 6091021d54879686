use Rattle.std.proofs.Common.{◌≡◌, ◌+◌, arith}
use Rattle.jiff_core.proofs.SignedLemmas.{signed_arith}
use Rattle.kb_days.specs.Calendar.{mark}
use Rattle.kb_days.proofs.calendar.marked.Goals as goal
use Rattle.kb_days.proofs.calendar.marked.Goals.{After-days_since_min}

-- the days since jiff's first date are those since 1970 and the ones before
same_day : (c : After-days_since_min) → c.days_since_min.result ≡ mark c.args.month c.args.bcd + 4371587
same_day c = omega (arith, signed_arith)

pub overflow_sub-result : goal.overflow_sub-result
overflow_sub-result c = omega (arith, same_day c)

pub returns : goal.returns
returns c = omega (arith, same_day (goal.at.returns c).After-days_since_min)
