use Rattle.kb_payment.proofs.EditLaws.{chargeback_moved}
use Rattle.kb_payment.proofs.payments.Payments.chargeback.Goals as goal

pub returns-clause-moved : goal.returns-clause-moved
returns-clause-moved c =
    chargeback_moved c.args.self.now c.in_ok-with_give_back.field-0 c.args.key c.args.of
    c.in_ok-purchase.purchase c.args.amount
    c.args.day c.in_ok-with_give_back.ensures c.in_ok-purchase.ensures.covered
