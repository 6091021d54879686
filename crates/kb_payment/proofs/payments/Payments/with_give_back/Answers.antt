use Rattle.std.proofs.Common.{arith}
use Rattle.kb_payment.proofs.EditLaws.{covered_bounded}
use Rattle.kb_payment.proofs.KeptMaps.{AreMaps-given_back, seen-with}
use Rattle.kb_payment.proofs.payments.Payments.with_give_back.Goals as goal

pub overflow_add-taken : goal.overflow_add-taken
overflow_add-taken c =
    let most = covered_bounded c.args.self.now c.args.key c.args.of c.requires.purchase c.args.attempt.amount
    c.taken_of.result
    c.taken_of.ensures.sound c.requires.covered c.taken_of.ensures.taken in
    omega arith

pub invariant_of-result : goal.invariant_of-result
invariant_of-result c =
    AreMaps-given_back c.args.self.now c.self.inside.attempts c.self.inside.taken c.self.inside.invoices
    c.in_ok-with_kept.field-0
    c.in_ok-with.field-0 c.in_ok-share.field-0 c.self.view_is c.self.invariant c.args.key c.args.of
    c.args.attempt
    c.taken_of.result c.requires c.taken_of.ensures.taken c.in_ok-with_kept.ensures c.in_ok-with.ensures
    c.in_ok-share.ensures

pub returns : goal.returns
returns c =
    seen-with c.args.self.now c.self.inside.attempts c.in_ok-with_kept.field-0 c.args.key c.args.attempt
    c.self.view_is
    c.in_ok-with_kept.ensures
