-- A refund moves nothing yet.
use Rattle.std.specs.Arc.{arc_value}
use Rattle.kb_account.proofs.PaymentMoves.{refund-moved}
use Rattle.kb_account.proofs.state.State.refund.Goals as goal

pub with_payments-requires-clause-moved : goal.with_payments-requires-clause-moved
with_payments-requires-clause-moved c =
    refund-moved (arc_value c.args.self.now.payments) c.in_ok-payments.payments c.args.refund.now.payment
    c.args.refund.now.of c.args.refund.now.amount c.args.today
    (rw c.deref.ensures at c.in_ok-payments.ensures.accepted)
    (rw c.deref.ensures at c.in_ok-payments.ensures.refunded)
