use Rattle.kb_payment.specs.Attempts.{with_status}
use Rattle.kb_payment.specs.declared.attempt.Status.TheVariants.{Unknown}
use Rattle.kb_payment.proofs.KeptMaps.{AreMaps-settled_failed, seen-with}
use Rattle.kb_payment.proofs.Settlements.{taken-enough}
use Rattle.kb_payment.proofs.payments.Payments.with_failed.Goals as goal

pub overflow_sub-taken : goal.overflow_sub-taken
overflow_sub-taken c =
    taken-enough c.args.self.now c.args.key c.args.attempt.now Unknown c.taken_of.ensures.sound
    c.requires.there
    c.requires.opened c.args.of c.taken_of.result c.requires.named c.taken_of.ensures.taken

pub invariant_of-result : goal.invariant_of-result
invariant_of-result c =
    AreMaps-settled_failed c.args.self.now c.self.inside.attempts c.self.inside.taken c.self.inside.invoices
    c.in_ok-with_kept.field-0 c.in_ok-with.field-0 c.in_ok-share.field-0 c.self.view_is c.self.invariant
    c.args.key
    c.args.attempt.now c.args.status c.args.of c.taken_of.result c.requires.there c.requires.opened
    c.requires.named
    c.requires.fails c.taken_of.ensures.taken c.in_ok-with_kept.ensures c.in_ok-with.ensures
    c.in_ok-share.ensures

pub returns : goal.returns
returns c =
    seen-with c.args.self.now c.self.inside.attempts c.in_ok-with_kept.field-0 c.args.key
    (with_status c.args.attempt.now c.args.status) c.self.view_is c.in_ok-with_kept.ensures
