-- Each part is that of the plan.
use Rattle.std.proofs.Common.{refl}
use Rattle.kb_due.proofs.cycle_day.ask_of.Goals as goal

pub returns : goal.returns
returns c = rw (← c.choice.view_is, c.category_of.ensures, c.version.ensures.same, c.period.ensures) refl
