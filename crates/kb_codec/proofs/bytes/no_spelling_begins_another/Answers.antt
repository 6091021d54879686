use Rattle.kb_codec.proofs.CommandLaws as laws
use Rattle.kb_codec.proofs.bytes.no_spelling_begins_another.Goals as goal

pub returns : goal.returns
returns c = record { apart = laws.no_spelling_begins_another }
