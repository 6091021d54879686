use Rattle.std.proofs.Common.{◌≡◌, ◌+◌, ◌/◌, ◌%◌, pos, min, arith}
use Rattle.jiff_core.specs.Calendar.{days_in_month}
use Rattle.jiff_core.proofs.SignedLemmas.{signed_casts}
use Rattle.kb_days.proofs.CivilDates.{days_from_civil-mark}
use Rattle.kb_days.proofs.calendar.marked_date.Goals as goal

pub returns : goal.returns
returns c =
    let date = c.constrain.result in
    let year : date.year ≡ pos (1970 + c.args.month / 12) = omega (arith, signed_casts) in
    let month : date.month ≡ c.args.month % 12 + 1 = omega (arith, signed_casts) in
    let day : date.day ≡ min c.args.bcd
    (days_in_month date.year date.month) = rw (c.constrain.ensures.year, c.constrain.ensures.month)
    (omega (arith, signed_casts)) in
    days_from_civil-mark date.year date.month date.day c.args.month c.args.bcd year month day (omega arith)
