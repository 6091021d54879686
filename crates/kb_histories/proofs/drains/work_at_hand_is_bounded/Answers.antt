use Rattle.kb_histories.proofs.WorkAtHand as laws
use Rattle.kb_histories.proofs.drains.work_at_hand_is_bounded.Goals as goal

pub returns : goal.returns
returns c = record {
  due = laws.due_commands_take_at_hand;
  settled = laws.settlements_add_invoices;
  bounded = laws.at_hand_is_bounded;
}
