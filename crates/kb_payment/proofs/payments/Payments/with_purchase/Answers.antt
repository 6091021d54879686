use Rattle.std.proofs.Common.{refl, true}
use Rattle.kb_payment.proofs.KeptMaps.{AreMaps-purchased, seen-with}
use Rattle.kb_payment.specs.PaymentEdits.{purchase_of}
use Rattle.kb_payment.proofs.payments.Payments.with_purchase.Goals as goal

pub invariant_of-result : goal.invariant_of-result
invariant_of-result c =
    AreMaps-purchased c.args.self.now c.self.inside.attempts c.self.inside.taken c.self.inside.invoices
    c.in_ok-with_kept.field-0
    c.in_ok-share.field-0 c.in_ok-with.field-0 c.self.view_is c.self.invariant c.args.key c.args.invoice
    c.args.amount
    c.args.day c.args.auto
    (record { has_open = true; automatic = c.latest.result }) c.on_invoice.result.automatic c.requires.fresh
    c.requires.idle c.requires.bounded refl c.latest.ensures
    c.on_invoice.ensures.automatic c.in_ok-with_kept.ensures c.in_ok-share.ensures c.in_ok-with.ensures

pub returns : goal.returns
returns c =
    seen-with c.args.self.now c.self.inside.attempts c.in_ok-with_kept.field-0 c.args.key
    (purchase_of c.args.invoice c.args.amount c.args.day c.args.auto) c.self.view_is c.in_ok-with_kept.ensures
