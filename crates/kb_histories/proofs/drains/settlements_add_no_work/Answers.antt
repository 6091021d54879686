use Rattle.kb_histories.proofs.SettlementWork as laws
use Rattle.kb_histories.proofs.drains.settlements_add_no_work.Goals as goal

pub returns : goal.returns
returns c = laws.settlements_add_no_work
