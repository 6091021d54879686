use Rattle.std.proofs.Common.{arith}
use Rattle.std.proofs.lemmas.Option.{none-some}
use Rattle.kb_days.proofs.CivilTexts.{length-civil_text, first_dash-civil_text, second_dash-civil_text}
use Rattle.kb_days.proofs.CivilTexts.{year-civil_text, month-civil_text, day-civil_text, civil_text-made}
use Rattle.kb_days.proofs.date_text.read_parts.Goals as goal
use Rattle.kb_days.proofs.date_text.read_parts.Goals.{then-text-ne10-via-then-text-ne10}
use Rattle.kb_days.proofs.date_text.read_parts.Goals.{then-text-ne10-via-else-text-ne10+then-text-ne45}
use Rattle.kb_days.proofs.date_text.read_parts.Goals.{then-text-ne10-via-else-text-ne10+else-text-ne45+then-text-ne45-2}

pub returns-then-text-ne10-clause-all : goal.returns-then-text-ne10-clause-all
returns-then-text-ne10-clause-all c y m d hy hm hd e =
    let len = length-civil_text c.args.text.now y m d e in
    let first = first_dash-civil_text c.args.text.now y m d e in
    let second = second_dash-civil_text c.args.text.now y m d e in
    elim c.then-text-ne10.branch [
      | then-text-ne10-via-then-text-ne10 w ↦ absurd (omega arith)
      | then-text-ne10-via-else-text-ne10+then-text-ne45 w ↦ absurd (omega arith)
      | then-text-ne10-via-else-text-ne10+else-text-ne45+then-text-ne45-2 w ↦ absurd (omega arith)
    ]

pub returns-in_err-year-clause-all : goal.returns-in_err-year-clause-all
returns-in_err-year-clause-all c y m d hy hm hd e =
    let read = year-civil_text c.args.text.now y m d hy e in
    absurd (none-some y (c.in_err-year.ensures.all y read.0 read.1))

pub returns-in_err-month-clause-all : goal.returns-in_err-month-clause-all
returns-in_err-month-clause-all c y m d hy hm hd e =
    let read = month-civil_text c.args.text.now y m d hm e in
    absurd (none-some m (c.in_err-month.ensures.all m read.0 read.1))

pub returns-in_err-day-clause-all : goal.returns-in_err-day-clause-all
returns-in_err-day-clause-all c y m d hy hm hd e =
    let read = day-civil_text c.args.text.now y m d hd e in
    absurd (none-some d (c.in_err-day.ensures.all d read.0 read.1))

pub returns-clause-text : goal.returns-clause-text
returns-clause-text c =
    civil_text-made c.args.text.now c.in_ok-year.year c.in_ok-month.month c.in_ok-day.day (omega arith)
    (omega arith) (omega arith) c.in_ok-year.ensures.digits c.in_ok-month.ensures.digits
    c.in_ok-day.ensures.digits

pub returns-clause-all : goal.returns-clause-all
returns-clause-all c y m d hy hm hd e =
    let year = year-civil_text c.args.text.now y m d hy e in
    let month = month-civil_text c.args.text.now y m d hm e in
    let day = day-civil_text c.args.text.now y m d hd e in
    cc (
      c.in_ok-year.ensures.all y year.0 year.1,
      c.in_ok-month.ensures.all m month.0
          month.1,
      c.in_ok-day.ensures.all d day.0 day.1,
    )
