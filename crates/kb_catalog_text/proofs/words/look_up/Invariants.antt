-- The words that are left give what all give.
use Rattle.std.proofs.Common.{◌≡◌, map, drop}
use Rattle.kb_catalog_text.specs.Words.{look_up}
use Rattle.kb_catalog_text.proofs.words.look_up.Given as goal

abbrev pub invariant-loop-word : goal.invariant-loop-word
invariant-loop-word g l =
    look_up (map (λ row. (row.0.now, row.1)) (drop l.word-index l.words)) l.text
    ≡ look_up (map (λ row. (row.0.now, row.1)) l.words) l.text
