use Rattle.kb_histories.proofs.BilledBooks as laws
use Rattle.kb_histories.proofs.drains.books_are_billed.Goals as goal

pub returns : goal.returns
returns c = record { stay = laws.books_stay_billed; replayed = laws.replays_are_billed }
