use Rattle.kb_histories.proofs.NamedBooks as laws
use Rattle.kb_histories.proofs.books.books_are_named.Goals as goal

pub returns : goal.returns
returns c = record { stay = laws.names_stay; replayed = laws.replays_are_named }
