use Rattle.kb_histories.proofs.OwnEntries as laws
use Rattle.kb_histories.proofs.accounts.own_commands_reply.Goals as goal

pub returns : goal.returns
returns c = record { reply = laws.own_commands_reply; replied = laws.own_commands_replied }
