use Rattle.std.proofs.Common.{sym, subst, IfSome, ℤ}
use Rattle.std.proofs.lemmas.Int.{to_z-of_z}
use mir.Syntax.{w128}
use Rattle.kb_payment.specs.declared.attempt.Attempt.{Attempt}
use Rattle.kb_payment.specs.PaymentSums.{PaymentsValue, attempt_of, Moves}
use Rattle.kb_payment.specs.SoundPayments.{ArePayments}
use Rattle.kb_payment.proofs.EditLaws.{settlement_moved}
use Rattle.kb_payment.proofs.payments.Payments.settle_open.Goals as goal

pub returns-clause-moved : goal.returns-clause-moved
returns-clause-moved c =
    subst (λ (amount : ℤ). IfSome (attempt_of c.args.self.now c.args.key)
    (λ (attempt : Attempt). Moves c.args.self.now c.in_ok-payments.payments attempt.invoice amount))
    (sym (to_z-of_z w128 c.moved_by.result (record { sfits = c.moved_by.type_inv })))
    (settlement_moved c.args.self.now c.in_ok-payments.payments c.args.key c.args.attempt.now
    c.args.status
    c.moved_by.result c.in_ok-payments.ensures
    (subst (λ (payments : PaymentsValue). ArePayments payments) c.self.view_is c.self.invariant.0)
    c.requires.there c.requires.opened c.moved_by.ensures)
