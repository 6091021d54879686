use Rattle.std.proofs.Common.{◌≡◌, Some}
use Rattle.kb_days.specs.Periods.{period_days}
use Rattle.kb_align.proofs.Tiles.{IsPeriodOf-days, IsPeriodOf-months, IsPeriodOf-tiles}
use Rattle.kb_align.proofs.BoundaryDays.{period_on-IsPeriodOf}
use Rattle.kb_align.proofs.periods.period_of.Goals as goal

pub returns-in-Some : goal.returns-in-Some
returns-in-Some c =
    let counted : period_days c.args.period ≡ Some c.in-Some.days = cc in
    let is =
    IsPeriodOf-days c.args.start c.args.period c.args.bcd c.in-Some.days c.args.day _ _ counted
    c.period_of_days.ensures.period in
    record {
      period = is;
      value =
          period_on-IsPeriodOf c.args.start c.args.period c.args.bcd c.args.day _ _ is
          c.period_of_days.ensures.longest;
      longest = c.period_of_days.ensures.longest;
      tiles =
          λ other from to. IsPeriodOf-tiles c.args.start c.args.period c.args.bcd c.args.day _ _ other from to
          is;
    }

pub returns-in-None : goal.returns-in-None
returns-in-None c =
    let is =
    IsPeriodOf-months c.args.start c.args.period c.args.bcd c.months_of.result c.args.day _ _
    c.months_of.ensures.months c.period_of_months.ensures.period in
    record {
      period = is;
      value =
          period_on-IsPeriodOf c.args.start c.args.period c.args.bcd c.args.day _ _ is
          c.period_of_months.ensures.longest;
      longest = c.period_of_months.ensures.longest;
      tiles =
          λ other from to. IsPeriodOf-tiles c.args.start c.args.period c.args.bcd c.args.day _ _ other from to
          is;
    }
