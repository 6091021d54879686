-- A settlement moves what it says on the invoice of the attempt.
use Rattle.std.proofs.Common.{length, arith, ap, sym, subst, ◌∙◌, ℤ}
use Rattle.std.proofs.lemmas.Int.{ints}
use Rattle.std.specs.Arc.{arc_value}
use Rattle.kb_account.specs.declared.begun.Move.{Move}
use Rattle.kb_account.specs.Private.Begins.{HasMoved}
use Rattle.kb_book.proofs.InvoicedAttempts.{invoiced-found}
use Rattle.kb_account.proofs.PaymentMoves.{settle-moved}
use Rattle.kb_account.proofs.state.State.settle.Goals as goal

pub with_payments-requires-clause-moved : goal.with_payments-requires-clause-moved
with_payments-requires-clause-moved c =
    let done = c.in_ok-settled.settled in
    subst (λ (moved : Move). HasMoved (arc_value c.args.self.now.payments) done.payments moved)
    (ap (λ (amount : ℤ). record { invoice = c.invoice_by.result; amount = amount }) (omega (arith, ints))
    ∙ sym c.move_on-moved.ensures)
    (settle-moved (arc_value c.args.self.now.payments) done.payments c.args.settle.now.payment done.attempt
    c.args.settle.now.status c.invoice_by.result done.moved
    (rw c.deref.ensures at c.in_ok-settled.ensures.accepted)
    (rw c.deref.ensures at c.in_ok-settled.ensures.settled)
    (rw c.deref.ensures at c.in_ok-settled.ensures.sound)
    (rw c.deref.ensures at c.in_ok-settled.ensures.attempt) c.invoice_by.ensures.invoice
    (rw c.deref.ensures at c.in_ok-settled.ensures.moved) c.invoice_by.ensures.amount)

pub with_payments-requires-clause-there : goal.with_payments-requires-clause-there
with_payments-requires-clause-there c =
    let done = c.in_ok-settled.settled in
    let place = ap (λ (moved : Move). moved.invoice) c.move_on-moved.ensures in
    let there = invoiced-found (length c.args.self.now.invoices.rows) (arc_value c.args.self.now.payments)
    c.args.settle.now.payment done.attempt
    c.requires.sound.invoiced (rw c.deref.ensures at c.in_ok-settled.ensures.attempt) in
    omega (arith, place, there, c.invoice_by.ensures.invoice)
