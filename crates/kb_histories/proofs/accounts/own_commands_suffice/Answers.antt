use Rattle.kb_histories.proofs.OwnEntries as laws
use Rattle.kb_histories.proofs.accounts.own_commands_suffice.Goals as goal

pub returns : goal.returns
returns c = record { suffice = laws.own_commands_suffice }
