use Rattle.std.proofs.Common.{◌++◌, ◌∷◌, [], inl, refl, sym, ◌∙◌}
use Rattle.std.proofs.lemmas.List.{append-nil}
use Rattle.kb_base.specs.Lines.{line_feed}
use Rattle.kb_json.specs.Answers.{say}
use Rattle.kb_json.specs.declared.answer.TheConstants.{MEMORY_TEXT}
use Rattle.kb_json.proofs.Lines.{on_ok, on_err, says_memory}
use Rattle.kb_json.proofs.line.say_memory.Goals as goal

pub returns-then-tells_change-clause-err : goal.returns-then-tells_change-clause-err
returns-then-tells_change-clause-err c = (
  [],
  sym (append-nil c.args.said.now.items),
  (
    say c.args.spoken.now ++ line_feed ∷ [],
    inl refl,
    (say c.args.spoken.now ++ line_feed ∷ [], refl),
  ),
)

pub returns-clause-ok : goal.returns-clause-ok
returns-clause-ok c = on_ok c.say_line.result (λ said. (
  MEMORY_TEXT.now ++ line_feed ∷ [],
  said,
  says_memory c.args.spoken.now (sym c.tells_change.ensures ∙ c.if-tells_change.false),
)) c.say_line.ensures.ok

pub returns-clause-err : goal.returns-clause-err
returns-clause-err c = on_err c.say_line.result (λ part. (
  part.0,
  part.1,
  (
    MEMORY_TEXT.now ++ line_feed ∷ [],
    says_memory c.args.spoken.now (sym c.tells_change.ensures ∙ c.if-tells_change.false),
    part.2,
  ),
)) c.say_line.ensures.err
