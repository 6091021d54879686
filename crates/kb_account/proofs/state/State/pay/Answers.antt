-- A payment moves nothing.
use Rattle.std.proofs.Common.{◌≡◌, None, subst}
use Rattle.std.specs.Arc.{arc_value}
use Rattle.kb_payment.specs.PaymentSums.{PaymentsValue}
use Rattle.kb_book.specs.PaymentRows.{balance_at, pay_rows}
use Rattle.kb_book.specs.Rows.{first_refusal}
use Rattle.kb_account.proofs.PaymentMoves.{pay-moved}
use Rattle.kb_account.proofs.state.State.pay.Goals as goal

pub with_payments-requires-clause-moved : goal.with_payments-requires-clause-moved
with_payments-requires-clause-moved c =
    pay-moved (arc_value c.args.self.now.payments) c.in_ok-payments.payments c.args.self.now.invoices
    c.args.pay.now
    (balance_at c.args.self.now.invoices c.args.pay.now.invoice) c.args.today
    (subst (λ (payments : PaymentsValue). first_refusal
    (pay_rows payments c.args.self.now.invoices c.args.pay.now) ≡ None)
    c.deref.ensures c.in_ok-payments.ensures.accepted)
    (rw c.deref.ensures at c.in_ok-payments.ensures.purchased)
