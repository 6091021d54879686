use Rattle.kb_overdue.proofs.TakenStates.{state_on-clear, state_on-within, state_on-holds, state_on-severest}
use Rattle.kb_overdue.proofs.TakenStates.{state_on-overdue}
use Rattle.kb_overdue.proofs.arrears.state_on.Goals as goal

pub returns-clause-clear : goal.returns-clause-clear
returns-clause-clear c = rw (c.place_on.ensures, c.states.ensures.same) (state_on-clear _ _ _)

pub returns-clause-there : goal.returns-clause-there
returns-clause-there c = rw (c.place_on.ensures, c.states.ensures.same) (state_on-within _ _ _)

pub returns-clause-holds : goal.returns-clause-holds
returns-clause-holds c = rw (c.place_on.ensures, c.states.ensures.same) (state_on-holds _ _ _)

pub returns-clause-severest : goal.returns-clause-severest
returns-clause-severest c = rw (c.place_on.ensures, c.states.ensures.same) (state_on-severest _ _ _)

pub returns-clause-overdue : goal.returns-clause-overdue
returns-clause-overdue c = rw (c.place_on.ensures, c.states.ensures.same) (state_on-overdue _ _ _)
