use Rattle.std.proofs.Common.{◌∙◌, ap, ap₂, arith}
use Rattle.std.proofs.lemmas.List.{take_all}
use Rattle.clap.specs.Words.{with_rule}
use Rattle.kb_words.specs.Private.Parsed.{app_for, app_with}
use Rattle.kb_words.proofs.Parsing.{app_with-more}
use Rattle.kb_words.proofs.matches.command_for.Goals as goal

pub loop-setting-preserved : goal.loop-setting-preserved
loop-setting-preserved c =
    c.in_ok-command.ensures.shape c.option.ensures.local
    ∙ ap₂ with_rule c.loop-setting.invariant c.option.ensures.rule
    ∙ app_with-more c.args.verb _ _ _ (omega arith)

pub returns : goal.returns
unfolding app_for
returns c =
    c.loop-setting.invariant
    ∙ ap (app_with c.args.verb) (take_all _ _ c.loop-setting-test.false ∙ c.settings-setting-items.ensures)
