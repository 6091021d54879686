-- The charges so far.
use Rattle.std.proofs.Common.{◌≡◌, take}
use Rattle.kb_account.proofs.billing.with_start.Given as goal

abbrev pub invariant-loop-one : goal.invariant-loop-one
invariant-loop-one l = l.all.items ≡ take l.one-index l.charges
