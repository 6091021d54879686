use Rattle.kb_make.proofs.Counts.{few_commands}
use Rattle.kb_make.proofs.generator.Generator.new.Goals as goal

pub returns-clause-few : goal.returns-clause-few
returns-clause-few c =
    few_commands c.args.seed c.args.accounts c.args.months _ c.first.ensures.unsent c.requires.months
