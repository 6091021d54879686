use Rattle.kb_histories.proofs.SettledAttempts as laws
use Rattle.kb_histories.proofs.attempts.settlements_settle.Goals as goal

pub returns : goal.returns
returns c = record {
  settled = laws.settlements_settle;
  new = laws.settlements_are_new;
  others =
      laws.settlements_leave_others;
}
