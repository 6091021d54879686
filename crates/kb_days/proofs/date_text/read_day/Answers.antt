use Rattle.std.proofs.Common.{◌≡◌, pos, refl, sym, ◌∙◌}
use Rattle.std.proofs.lemmas.Bool.{false≢true}
use Rattle.std.proofs.lemmas.Option.{none-some}
use Rattle.jiff_core.specs.Calendar.{days_from_civil}
use Rattle.jiff_core.proofs.DateLemmas.{civil}
use Rattle.kb_days.proofs.CivilDates.{IsCivilDate-same}
use Rattle.kb_days.proofs.ReadDates.{read_day-no_parts, read_day-no_date, read_day-date}
use Rattle.kb_days.proofs.date_text.read_day.Goals as goal

pub returns-in_err-year : goal.returns-in_err-year
returns-in_err-year c =
    c.from_residual.ensures ∙ sym
    (read_day-no_parts c.args.text.now
    (λ y m d hy hm hd e. none-some (y, m, d) (c.in_err-year.ensures.all y m d hy hm hd e)))

pub returns-in_err-date : goal.returns-in_err-date
returns-in_err-date c =
    let parts = c.in_ok-year in
    let bounds = parts.ensures.bounds in
    let missing = c.in_err-date.ensures.civil in
    c.from_residual-in_err-date.ensures
    ∙ sym (read_day-no_date c.args.text.now parts.year parts.month parts.day bounds.0 bounds.1 bounds.2
    parts.ensures.text (λ h. false≢true (missing h)))

pub returns : goal.returns
returns c =
    let parts = c.in_ok-year in
    let bounds = parts.ensures.bounds in
    let date = c.in_ok-date.date in
    let is = c.in_ok-date.ensures.parts in
    let here = IsCivilDate-same date.year date.month date.day
    (pos parts.year) parts.month parts.day is.0 is.1 is.2 (civil date) in
    let same : days_from_civil date.year date.month date.day ≡ days_from_civil
    (pos parts.year) parts.month parts.day = rw (is.0, is.1, is.2) refl in
    read_day-date c.args.text.now parts.year parts.month parts.day c.day_of.result bounds.0 bounds.1 bounds.2
    parts.ensures.text here (rw same at c.day_of.ensures.value)
    (λ day first last e. c.day_of.ensures.all day first last (same ∙ e))
