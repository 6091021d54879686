use Rattle.kb_histories.proofs.OnlyAdded as laws
use Rattle.kb_histories.proofs.invoices.items_are_only_added.Goals as goal

pub returns : goal.returns
returns c = record {
  stay = laws.commands_only_add;
  replayed = laws.histories_only_add;
  one_invoice = laws.commands_issue_one;
}
