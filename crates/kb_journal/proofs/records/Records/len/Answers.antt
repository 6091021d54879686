use Rattle.std.proofs.Common.{length, drop, ap, sym, ◌∙◌, List, ℕ}
use Rattle.kb_journal.proofs.Told.{length-told}
use Rattle.kb_journal.proofs.records.Records.len.Goals as goal

pub returns : goal.returns
returns c = sym (length-told c.self.inside.count (drop 16 c.self.inside.bytes.items))
    ∙ ap (λ (records : List (List ℕ)). length records) c.self.view_is
