use Rattle.std.proofs.Common.{◌++◌, ◌∷◌, [], ◌∙◌}
use Rattle.kb_base.specs.Lines.{line_feed}
use Rattle.kb_json.proofs.Lines.{on_err, says_text}
use Rattle.kb_json.proofs.line.say.Goals as goal

pub returns-in-Ok-clause-err : goal.returns-in-Ok-clause-err
returns-in-Ok-clause-err c = on_err c.say_line.result (λ part. (
  part.0,
  part.1,
  (
    c.deref.result.now ++ line_feed ∷ [],
    says_text c.args.spoken.now c.deref.result.now (c.deref.ensures.value ∙ c.in-Ok.ensures.text),
    part.2,
  ),
)) c.say_line.ensures.err
