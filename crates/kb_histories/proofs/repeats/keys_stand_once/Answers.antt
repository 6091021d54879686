use Rattle.kb_histories.proofs.RepeatedEntries as laws
use Rattle.kb_histories.proofs.repeats.keys_stand_once.Goals as goal

pub returns : goal.returns
returns c = record { once = laws.keys_stand_once }
