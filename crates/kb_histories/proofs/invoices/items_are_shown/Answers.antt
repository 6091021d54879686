use Rattle.kb_histories.proofs.Shown as laws
use Rattle.kb_histories.proofs.invoices.items_are_shown.Goals as goal

pub returns : goal.returns
returns c = record { stay = laws.items_stay_shown; replayed = laws.replays_are_shown }
