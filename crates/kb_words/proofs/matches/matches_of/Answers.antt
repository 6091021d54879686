use Rattle.std.proofs.Common.{◌≡◌}
use Rattle.kb_words.proofs.Parsing.{matched-parsed, refused-faults}
use Rattle.kb_words.specs.declared.read.WordsFault.TheVariants.{Words}
use Rattle.kb_words.proofs.matches.matches_of.Goals as goal

pub returns-in-Ok-clause-read : goal.returns-in-Ok-clause-read
returns-in-Ok-clause-read c =
    matched-parsed c.args.verb _ _ c.in-Ok.matches c.in_ok-command.ensures c.in-Ok.ensures.matches

pub returns-in-Err-clause-refused : goal.returns-in-Err-clause-refused
returns-in-Err-clause-refused c = λ refused.
    let words : c.fault_of.result ≡ Words = cc in
    refused-faults c.args.verb _ _ c.in-Err.error c.in_ok-command.ensures c.in-Err.ensures.kinds
    (c.fault_of.ensures words)
