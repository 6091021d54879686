use Rattle.std.proofs.Common.{◌≡◌, drop}
use Rattle.kb_words.specs.Options.{stand_once}
use Rattle.kb_words.proofs.given.stand_once.Given as goal

abbrev pub invariant-loop-place : goal.invariant-loop-place
invariant-loop-place l = stand_once (drop l.place l.options) ≡ stand_once l.options
