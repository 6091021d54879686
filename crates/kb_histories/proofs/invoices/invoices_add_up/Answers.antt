use Rattle.kb_histories.proofs.AddUp as laws
use Rattle.kb_histories.proofs.invoices.invoices_add_up.Goals as goal

pub returns : goal.returns
returns c = record { stay = laws.invoices_stay_added_up; replayed = laws.replays_add_up }
