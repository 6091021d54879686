use Rattle.std.proofs.Common.{◌≡◌, take}
use Rattle.clap.specs.Words.{app_of}
use Rattle.kb_words.specs.Private.Parsed.{app_with}
use Rattle.kb_words.proofs.matches.command_for.Given as goal

abbrev pub invariant-loop-setting : goal.invariant-loop-setting
invariant-loop-setting l = app_of l.command ≡ app_with l.fn.verb (take l.setting-index l.setting-items)
