use Rattle.kb_catalog_text.proofs.words.PeriodFromValue.read.Goals as goal

pub returns : goal.returns
returns c = rw c.word_in.ensures at c.found.ensures
