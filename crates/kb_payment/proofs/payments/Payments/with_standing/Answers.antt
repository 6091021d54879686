use Rattle.kb_payment.specs.Attempts.{with_status}
use Rattle.kb_payment.proofs.KeptMaps.{AreMaps-settled_standing, seen-with}
use Rattle.kb_payment.proofs.payments.Payments.with_standing.Goals as goal

pub invariant_of-result : goal.invariant_of-result
invariant_of-result c =
    AreMaps-settled_standing c.args.self.now c.self.inside.attempts c.self.inside.taken c.self.inside.invoices
    c.in_ok-with_kept.field-0 c.in_ok-share.field-0 c.in_ok-share-2.field-0 c.self.view_is c.self.invariant
    c.args.key
    c.args.attempt.now c.args.status c.args.of c.requires.there c.requires.opened c.requires.named
    c.requires.stands
    c.in_ok-with_kept.ensures c.in_ok-share.ensures c.in_ok-share-2.ensures

pub returns : goal.returns
returns c =
    seen-with c.args.self.now c.self.inside.attempts c.in_ok-with_kept.field-0 c.args.key
    (with_status c.args.attempt.now c.args.status) c.self.view_is c.in_ok-with_kept.ensures
