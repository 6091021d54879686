use Rattle.kb_histories.proofs.BoundedBooks as laws
use Rattle.kb_histories.proofs.machines.replayed_work_is_bounded.Goals as goal

pub returns : goal.returns
returns c = laws.replayed_work_is_bounded
