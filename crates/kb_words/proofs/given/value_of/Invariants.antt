use Rattle.std.proofs.Common.{◌≡◌, drop}
use Rattle.kb_words.specs.Options.{value_of}
use Rattle.kb_words.proofs.given.value_of.Given as goal

abbrev pub invariant-loop-option : goal.invariant-loop-option
invariant-loop-option l = value_of l.setting (drop l.option-index l.options) ≡ value_of l.setting l.options
