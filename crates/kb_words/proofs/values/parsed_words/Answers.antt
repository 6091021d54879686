use Rattle.std.proofs.Common.{subst, Option}
use Rattle.kb_words.specs.declared.words.Words.{Words}
use Rattle.kb_words.specs.Private.Reading.{IsRead}
use Rattle.kb_words.proofs.Reread.{command_words-same}
use Rattle.kb_words.proofs.values.parsed_words.Goals as goal

pub returns-in-Ok : goal.returns-in-Ok
returns-in-Ok c = λ _.
    subst (λ (said : Option Words). IsRead said c.command_words.result)
    (command_words-same c.args.verb _ _ c.in-Ok.ensures.read) c.command_words.ensures
