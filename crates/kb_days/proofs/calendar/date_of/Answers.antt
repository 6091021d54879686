use Rattle.std.proofs.Common.{◌≡◌, pos, arith}
use Rattle.jiff_core.specs.Date.{epoch_day}
use Rattle.jiff_core.proofs.DateLemmas.{civil}
use Rattle.jiff_core.proofs.SignedLemmas.{signed_arith}
use Rattle.kb_days.proofs.CivilDates.{year-civil, month-civil, day_of_month-civil}
use Rattle.kb_days.proofs.calendar.date_of.Goals as goal
use Rattle.kb_days.proofs.calendar.date_of.Goals.{After-from_days_since_min}

-- the date's day number is the day
same_day : (c : After-from_days_since_min) → epoch_day c.from_days_since_min.result ≡ pos c.args.day
same_day c = omega (arith, signed_arith)

pub returns-clause-year : goal.returns-clause-year
returns-clause-year c =
    let date = c.from_days_since_min.result in year-civil date.year date.month date.day c.args.day
    (civil date) (same_day c)

pub returns-clause-month : goal.returns-clause-month
returns-clause-month c =
    let date = c.from_days_since_min.result in month-civil date.year date.month date.day c.args.day
    (civil date) (same_day c)

pub returns-clause-day : goal.returns-clause-day
returns-clause-day c =
    let date = c.from_days_since_min.result in day_of_month-civil date.year date.month date.day c.args.day
    (civil date) (same_day c)
