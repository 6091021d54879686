use Rattle.std.proofs.Common.{◌≡◌, ◌+◌, ◌≤◌, refl, sym, arith}
use Rattle.std.proofs.lemmas.Grind.{common_steps}
use Rattle.kb_days.specs.Calendar.{first_reach, month_of, day_of_month}
use Rattle.kb_days.specs.Adding.{add_months}
use Rattle.kb_days.proofs.Reaches.{mark-first_reach, mark-past}
use Rattle.kb_days.proofs.LaterDays.{add_months-later, reached-past}
use Rattle.kb_days.proofs.adding.add_months.Goals as goal
use Rattle.kb_days.proofs.adding.add_months.Goals.{After-new}

pub returns-then-month-gt1609-clause-value : goal.returns-then-month-gt1609-clause-value
returns-then-month-gt1609-clause-value c =
    sym (reached-past (add_months c.args.day c.args.months)
    (mark-past (month_of c.args.day + c.args.months) (day_of_month c.args.day) (omega arith)))

-- the day in that month
day_is : (c : After-new) → c.kept_number.result ≡ add_months c.args.day c.args.months
day_is c = rw (c.kept_number.ensures, c.month_of.ensures.value) refl

pub returns-clause-value : goal.returns-clause-value
returns-clause-value c =
    let first : first_reach ≤ add_months c.args.day c.args.months = mark-first_reach
    (month_of c.args.day + c.args.months) (day_of_month c.args.day) (omega arith) in
    let low = rw (← day_is c) at first in
    rw (← day_is c) (grind (arith, common_steps))

pub returns-clause-later : goal.returns-clause-later
returns-clause-later c =
    let later = add_months-later c.args.day c.args.months c.requires.some in
    let same = day_is c in
    grind (arith, c.new.ensures.value)
