use Rattle.kb_catalog_text.proofs.from_value.list_or_empty.Goals as goal

pub returns : goal.returns
returns g c = rw c.new.ensures at c.read_or.ensures
