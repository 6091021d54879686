use Rattle.kb_histories.proofs.EvenNow as laws
use Rattle.kb_histories.proofs.machines.accounts_are_even.Goals as goal

pub returns : goal.returns
returns c = record { stay = laws.books_stay_even_now; replayed = laws.replays_are_even_now }
