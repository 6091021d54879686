-- A chargeback moves its amount off the invoice of the purchase.
use Rattle.std.proofs.Common.{length, arith, ap, sym, subst}
use Rattle.std.proofs.lemmas.Int.{ints}
use Rattle.std.specs.Arc.{arc_value}
use Rattle.kb_account.specs.declared.begun.Move.{Move}
use Rattle.kb_account.specs.Private.Begins.{HasMoved}
use Rattle.kb_account.proofs.PaymentMoves.{chargeback-moved, invoice-there}
use Rattle.kb_account.proofs.state.State.chargeback.Goals as goal

pub with_payments-requires-clause-moved : goal.with_payments-requires-clause-moved
with_payments-requires-clause-moved c =
    subst (λ (moved : Move). HasMoved (arc_value c.args.self.now.payments) c.in_ok-payments.payments moved)
    (sym c.move_on-moved.ensures)
    (chargeback-moved (arc_value c.args.self.now.payments) c.in_ok-payments.payments
    c.args.chargeback.now.payment
    c.args.chargeback.now.of c.args.chargeback.now.amount c.args.today c.invoice_of-invoice.result _
    (rw c.deref.ensures at c.in_ok-payments.ensures.accepted)
    (rw c.deref.ensures at c.in_ok-payments.ensures.charged_back) c.invoice_of-invoice.ensures.invoice
    (omega (arith, ints)) (omega arith))

pub with_payments-requires-clause-there : goal.with_payments-requires-clause-there
with_payments-requires-clause-there c =
    let place = ap (λ (moved : Move). moved.invoice) c.move_on-moved.ensures in
    let there = invoice-there (length c.args.self.now.invoices.rows) (arc_value c.args.self.now.payments)
    c.args.chargeback.now.of
    c.requires.sound.invoiced in
    omega (arith, place, there, c.invoice_of-invoice.ensures.invoice)
