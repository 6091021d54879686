-- A settlement is refused or accepted, and then the book is billed.
use Rattle.std.proofs.Common.{◌≡◌, Ok, subst}
use Rattle.kb_book.specs.Books.{BookValue}
use Rattle.kb_book.specs.Rows.{IsUnprepared}
use Rattle.kb_book.specs.Steps.{Outcome, step}
use Rattle.kb_book.specs.BilledBooks.{IsBilled}
use Rattle.kb_book.proofs.AcceptedCommands.{billed-accepted}
use Rattle.kb_account.specs.Prepares.{refusal_by}
use Rattle.kb_account.specs.Private.States.{value_of}
use Rattle.kb_account.proofs.SettledSteps.{step-settled, step-unsettled}
use Rattle.kb_account.proofs.book.Book.prepare_settlement.Goals as goal

pub returns-in-Ok-clause-step : goal.returns-in-Ok-clause-step
returns-in-Ok-clause-step c =
    subst (λ (book : BookValue). step c.args.world.now book c.args.today c.args.command.now
    ≡ Ok (c.in-Ok.next.answer, c.in-Ok.next.book))
    c.self.view_is
    (step-settled c.args.world.now (value_of c.self.inside.state) c.args.today c.args.command.now
    c.requires.settlement (c.in-Ok.next.answer, c.in-Ok.next.book) c.in-Ok.ensures.accepted
    c.in-Ok.ensures.next)

pub returns-in-Err-clause-refused : goal.returns-in-Err-clause-refused
returns-in-Err-clause-refused c =
    subst (λ (book : BookValue). IsUnprepared (refusal_by
    (step c.args.world.now book c.args.today c.args.command.now))
    c.in-Err.fault)
    c.self.view_is
    (step-unsettled c.args.world.now (value_of c.self.inside.state) c.args.today c.args.command.now
    c.requires.settlement c.in-Err.fault c.in-Err.ensures.refused)

pub returns-in-Ok-clause-billed : goal.returns-in-Ok-clause-billed
returns-in-Ok-clause-billed c =
    subst (λ (outcome : Outcome). IsBilled c.args.world.now outcome.1) c.in-Ok.ensures.next
    (billed-accepted c.args.world.now (value_of c.self.inside.state) c.args.today c.args.command.now
    c.self.invariant)
