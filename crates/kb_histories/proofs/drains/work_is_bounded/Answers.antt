use Rattle.kb_histories.proofs.NamedSums as laws
use Rattle.kb_histories.proofs.drains.work_is_bounded.Goals as goal

pub returns : goal.returns
returns c = record { fewer = laws.fewer_names_have_no_more; bounded = laws.work_is_bounded }
