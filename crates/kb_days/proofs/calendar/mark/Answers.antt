use Rattle.std.proofs.Common.{arith}
use Rattle.kb_days.proofs.Months.{mark-began, mark-not_over}
use Rattle.kb_days.proofs.Reaches.{mark-first_reach, mark-last_reach}
use Rattle.kb_days.proofs.calendar.mark.Goals as goal

pub within-requires-clause-first : goal.within-requires-clause-first
within-requires-clause-first c =
    omega (arith, mark-first_reach c.args.month c.args.bcd c.requires.from_1997_06)

pub within-requires-clause-last : goal.within-requires-clause-last
within-requires-clause-last c = omega (arith, mark-last_reach c.args.month c.args.bcd c.requires.to_2104_01)

pub returns-clause-in_month : goal.returns-clause-in_month
returns-clause-in_month c =
    (omega (arith, mark-began c.args.month c.args.bcd), omega (arith, mark-not_over c.args.month c.args.bcd))
