use Rattle.std.proofs.Common.{◌≡◌, ◌+◌, ◌/◌, ◌%◌, refl, arith}
use Rattle.jiff_core.proofs.SignedLemmas.{signed_arith}
use Rattle.kb_days.specs.Calendar.{month_of, day_of_month}
use Rattle.kb_days.specs.DateText.{civil_text, date_text}
use Rattle.kb_days.proofs.date_text.text.Goals as goal

pub returns : goal.returns
unfolding date_text civil_text
returns c =
    let year : 1970 + month_of c.args.day / 12 ≡ c.year_of-year.result = omega (arith, signed_arith) in
    let month : month_of c.args.day % 12 + 1 ≡ c.from-month.result = omega arith in
    let day : day_of_month c.args.day ≡ c.from-day.result = omega arith in
    let thousands : c.year_of-year.result / 10 / 10 / 10 ≡ c.year_of-year.result / 1000 = omega arith in
    let hundreds : c.year_of-year.result / 10 / 10 ≡ c.year_of-year.result / 100 = omega arith in
    rw (
      year,
      month,
      day,
      thousands,
      hundreds,
      c.digit.ensures,
      c.digit-2.ensures,
      c.digit-3.ensures,
      c.digit-4.ensures,
      c.digit-5.ensures,
      c.digit-6.ensures,
      c.digit-7.ensures,
      c.digit-8.ensures,
    ) refl
