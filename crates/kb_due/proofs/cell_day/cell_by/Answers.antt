-- Without a rate there is no cell.
use Rattle.kb_due.proofs.cell_day.cell_by.Goals as goal

pub returns-in-None-clause-value : goal.returns-in-None-clause-value
returns-in-None-clause-value c = rw c.in-None.is at (c.rate_by.ensures.value c.args.day)
