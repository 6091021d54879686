use Rattle.kb_histories.proofs.TakenWork as laws
use Rattle.kb_histories.proofs.drains.due_commands_take_work.Goals as goal

pub returns : goal.returns
returns c = laws.due_commands_take_work
