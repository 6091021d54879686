use Rattle.std.proofs.Common.{◌≡◌}
use Rattle.kb_lock.specs.Passes.{idle}
use Rattle.tests_outside.proofs.lock.threads.add_all.Given as goal

abbrev pub invariant-loop-number : goal.invariant-loop-number
invariant-loop-number g l = l.pass ≡ idle l.fn.held l.pass.seen
