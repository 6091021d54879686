use Rattle.std.proofs.Common.{refl}
use Rattle.kb_align.proofs.Neighbours.{day_boundaries}
use Rattle.kb_align.proofs.periods.last_boundary.Goals as goal

pub returns-clause-period : goal.returns-clause-period
returns-clause-period c =
    day_boundaries c.args.days c.args.start c.args.day _ c.requires.some_day c.requires.begun refl
