-- A step is refused, kept or accepted; and what an accepted one promises.
use Rattle.std.proofs.Common.{◌≡◌, Ok, sym, subst, ◌∙◌}
use Rattle.kb_book.specs.Books.{BookValue}
use Rattle.kb_book.specs.Rows.{IsUnprepared}
use Rattle.kb_book.specs.Steps.{Outcome, step}
use Rattle.kb_book.specs.BilledBooks.{IsBilled, IsEven}
use Rattle.kb_book.specs.AddedItems.{AddsFrom, GoOn}
use Rattle.kb_book.proofs.AcceptedCommands.{billed-accepted, adds-accepted-from, items-accepted}
use Rattle.kb_book.proofs.AcceptedCommands.{even-accepted}
use Rattle.kb_book.proofs.RepeatedCommands.{repeat-step}
use Rattle.kb_account.specs.Prepares.{refusal_by}
use Rattle.kb_account.specs.Private.States.{value_of}
use Rattle.kb_account.proofs.PreparedSteps.{step-kept, step-accepted, step-reused, step-refused}
use Rattle.kb_account.proofs.book.Book.prepare.Goals as goal

pub returns-in-Err-clause-refused : goal.returns-in-Err-clause-refused
returns-in-Err-clause-refused c =
    subst (λ (book : BookValue). IsUnprepared (refusal_by
    (step c.args.world.now book c.args.today c.args.command.now))
    c.in-Err.fault)
    c.self.view_is
    (step-reused c.args.world.now (value_of c.self.inside.state) c.args.today c.args.command.now
    c.in-Err.fault
    c.in-Err.ensures.refused)

pub returns-in-Some-clause-step : goal.returns-in-Some-clause-step
returns-in-Some-clause-step c =
    subst (λ (book : BookValue). step c.args.world.now book c.args.today c.args.command.now
    ≡ Ok (c.in-Some.answer, book))
    c.self.view_is
    (step-kept c.args.world.now (value_of c.self.inside.state) c.args.today c.args.command.now
    c.in-Some.answer
    (sym c.in-Some.is ∙ c.in-Ok.ensures.answer))

pub returns-in-Err-accept-clause-refused : goal.returns-in-Err-accept-clause-refused
returns-in-Err-accept-clause-refused c =
    subst (λ (book : BookValue). IsUnprepared (refusal_by
    (step c.args.world.now book c.args.today c.args.command.now))
    c.in-Err-accept.fault)
    c.self.view_is
    (step-refused c.args.world.now (value_of c.self.inside.state) c.args.today c.args.command.now
    c.in-Err-accept.fault (sym c.in-None.is ∙ c.in-Ok.ensures.answer) c.in-Ok.ensures.allowed
    c.in-Err-accept.ensures.refused)

pub returns-in-Ok-accept-clause-step : goal.returns-in-Ok-accept-clause-step
returns-in-Ok-accept-clause-step c =
    subst (λ (book : BookValue). step c.args.world.now book c.args.today c.args.command.now
    ≡ Ok (c.in-Ok-accept.next.answer, c.in-Ok-accept.next.book))
    c.self.view_is
    (step-accepted c.args.world.now (value_of c.self.inside.state) c.args.today c.args.command.now
    (c.in-Ok-accept.next.answer, c.in-Ok-accept.next.book) (sym c.in-None.is ∙ c.in-Ok.ensures.answer)
    c.in-Ok.ensures.allowed c.in-Ok-accept.ensures.accepted c.in-Ok-accept.ensures.next)

pub returns-in-Ok-accept-clause-billed : goal.returns-in-Ok-accept-clause-billed
returns-in-Ok-accept-clause-billed c =
    subst (λ (outcome : Outcome). IsBilled c.args.world.now outcome.1) c.in-Ok-accept.ensures.next
    (billed-accepted c.args.world.now (value_of c.self.inside.state) c.args.today c.args.command.now
    c.self.invariant)

pub returns-in-Ok-accept-clause-added : goal.returns-in-Ok-accept-clause-added
returns-in-Ok-accept-clause-added c other billed =
    let book = value_of c.self.inside.state in
    subst (λ (before : BookValue). AddsFrom other c.args.world.now before c.in-Ok-accept.next.book)
    c.self.view_is
    (subst (λ (outcome : Outcome). AddsFrom other c.args.world.now book outcome.1) c.in-Ok-accept.ensures.next
    (adds-accepted-from c.args.world.now book c.args.today c.args.command.now c.self.invariant other
    (subst (IsBilled other) (sym c.self.view_is) billed)))

pub returns-in-Ok-accept-clause-behind : goal.returns-in-Ok-accept-clause-behind
returns-in-Ok-accept-clause-behind c =
    let book = value_of c.self.inside.state in
    subst (λ (before : BookValue). GoOn before c.in-Ok-accept.next.book) c.self.view_is
    (subst (λ (outcome : Outcome). GoOn book outcome.1) c.in-Ok-accept.ensures.next
    (items-accepted c.args.world.now book c.args.today c.args.command.now c.self.invariant))

pub returns-in-Ok-accept-clause-even : goal.returns-in-Ok-accept-clause-even
returns-in-Ok-accept-clause-even c =
    subst (λ (outcome : Outcome). IsEven c.args.world.now outcome.1) c.in-Ok-accept.ensures.next
    (even-accepted c.args.world.now (value_of c.self.inside.state) c.args.today c.args.command.now
    c.self.invariant)

pub returns-in-Ok-accept-clause-repeated : goal.returns-in-Ok-accept-clause-repeated
returns-in-Ok-accept-clause-repeated c key is other tomorrow =
    repeat-step c.args.world.now other (value_of c.self.inside.state) c.in-Ok-accept.next.book
    c.args.today tomorrow
    c.args.command.now c.in-Ok-accept.next.answer key is c.in-Ok-accept.ensures.next
