use Rattle.std.proofs.Common.{◌≡◌, drop, map}
use Rattle.std.specs.Prelude.{string_bytes}
use Rattle.kb_words.specs.Options.{options_of, word_of}
use Rattle.kb_words.specs.Private.Words.{options_with}
use Rattle.kb_words.proofs.options.options_of.Given as goal

abbrev pub invariant-loop-word : goal.invariant-loop-word
invariant-loop-word l =
    options_with l.options.items l.waiting (map word_of (map string_bytes (drop l.word-index l.words)))
    ≡ options_of (map word_of (map string_bytes l.words))
