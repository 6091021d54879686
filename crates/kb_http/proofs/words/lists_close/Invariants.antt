use Rattle.std.proofs.Common.{◌≡◌, codes, length}
use Rattle.std.specs.List.{list_any}
use Rattle.kb_http.specs.Words.{is_word, words_of}
use Rattle.kb_http.proofs.words.lists_close.Given as goal

abbrev pub invariant-loop-rest : goal.invariant-loop-rest
invariant-loop-rest l =
    list_any (λ word. is_word word (codes "close")) (words_of l.text)
    ≡ list_any (λ word. is_word word (codes "close")) (words_of l.fn.text)

abbrev pub decreases-loop-rest : goal.decreases-loop-rest
decreases-loop-rest l = length l.text
