-- The text that is written is what is said of the account.
use Rattle.std.proofs.Common.{List, ℕ, OnErr, subst, ◌∙◌}
use Rattle.kb_reports.specs.Private.Parts.{WritesPart}
use Rattle.kb_reports.proofs.printing.print_account.Goals as goal

pub returns-in-Ok-clause-part : goal.returns-in-Ok-clause-part
returns-in-Ok-clause-part g c =
    subst (λ (text : List ℕ). OnErr c.write_text.result
    (WritesPart (g.O.Sink.written c.args.output.now) (g.O.Sink.written c.write_text.new.output) text))
    (c.deref.ensures.value ∙ c.in-Ok.ensures) c.write_text.ensures.part
