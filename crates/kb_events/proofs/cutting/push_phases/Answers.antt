-- The phases are those of the plan that the entry chose.
use Rattle.kb_events.proofs.cutting.push_phases.Goals as goal

pub returns-in-Some-clause-has : goal.returns-in-Some-clause-has
returns-in-Some-clause-has c =
    rw (← c.choice_of.ensures, c.in-Some.is, ← c.choice.view_is, ← c.as_slice.ensures)
    c.push_starts.ensures.has
