-- What is due isn't refused.
use Rattle.std.proofs.Common.{◌≡◌, None, sym, subst}
use Rattle.kb_book.specs.Books.{BookValue}
use Rattle.kb_book.specs.Rows.{first_refusal}
use Rattle.kb_book.specs.Steps.{rows_of}
use Rattle.kb_book.proofs.DueCommands.{next_due-accepted}
use Rattle.kb_account.specs.Private.States.{value_of}
use Rattle.kb_account.proofs.book.Book.due_next.Goals as goal

pub returns-in-Some-clause-allowed : goal.returns-in-Some-clause-allowed
returns-in-Some-clause-allowed c =
    subst (λ (book : BookValue). first_refusal (rows_of c.args.world.now book c.args.today c.in-Some.command)
    ≡ None)
    c.self.view_is
    (next_due-accepted c.args.world.now (value_of c.self.inside.state) c.args.today c.in-Some.command
    (sym c.in-Some.ensures))
