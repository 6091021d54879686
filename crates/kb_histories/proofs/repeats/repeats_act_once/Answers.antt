use Rattle.kb_histories.proofs.RepeatedEntries as laws
use Rattle.kb_histories.proofs.repeats.repeats_act_once.Goals as goal

pub returns : goal.returns
returns c = record { again = laws.repeats_act_once }
