use Rattle.kb_payment.proofs.MapEntries.{entries-none}
use Rattle.kb_payment.proofs.KeptMaps.{AreMaps-none}
use Rattle.kb_payment.proofs.payments.Payments.new.Goals as goal

pub invariant_of-result : goal.invariant_of-result
invariant_of-result c =
    AreMaps-none c.new.result c.new-2.result c.new-3.result c.new.ensures c.new-2.ensures c.new-3.ensures

pub returns : goal.returns
returns c = entries-none c.new.result c.new.ensures
