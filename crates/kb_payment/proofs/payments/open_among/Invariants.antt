use Rattle.std.proofs.Common.{◌≡◌, ◌++◌, drop}
use Rattle.kb_payment.specs.Private.LentEntries.{open_among}
use Rattle.kb_payment.proofs.payments.open_among.Given as goal

abbrev pub invariant-loop-entry : goal.invariant-loop-entry
invariant-loop-entry l = l.keys.items ++ open_among (drop l.entry-index l.entries) ≡ open_among l.entries
