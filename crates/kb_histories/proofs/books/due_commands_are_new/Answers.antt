use Rattle.kb_histories.proofs.DueNews as laws
use Rattle.kb_histories.proofs.books.due_commands_are_new.Goals as goal

pub returns : goal.returns
returns c = record { named = laws.due_commands_are_named; new = laws.due_commands_are_new }
