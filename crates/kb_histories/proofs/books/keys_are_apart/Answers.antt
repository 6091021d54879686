use Rattle.kb_histories.proofs.KeyedBooks as laws
use Rattle.kb_histories.proofs.books.keys_are_apart.Goals as goal

pub returns : goal.returns
returns c = record { replayed = laws.replays_are_keyed }
