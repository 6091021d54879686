-- No states keep the rules of states.
use Rattle.std.proofs.Common.{[], refl}
use Rattle.kb_overdue.specs.ConfigRules.{AreStates, fault_of, is_broken_at}

pub are_states : AreStates []
unfolding fault_of is_broken_at
are_states = refl
