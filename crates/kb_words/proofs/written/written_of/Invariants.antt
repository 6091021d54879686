use Rattle.std.proofs.Common.{◌≡◌, ◌++◌, drop, map}
use Rattle.std.specs.Prelude.{string_bytes}
use Rattle.kb_words.specs.Options.{value_of}
use Rattle.kb_words.specs.Private.Written.{written_of}
use Rattle.kb_words.proofs.written.written_of.Given as goal

abbrev pub invariant-loop-setting : goal.invariant-loop-setting
invariant-loop-setting l =
    map string_bytes l.words.items
    ++ written_of (λ setting. value_of setting l.options) (drop l.setting-index l.settings)
    ≡ written_of (λ setting. value_of setting l.options) l.settings
