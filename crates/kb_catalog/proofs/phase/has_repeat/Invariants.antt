use Rattle.std.proofs.Common.{◌≡◌, length}
use Rattle.kb_catalog.specs.Plans.{has_repeat}
use Rattle.kb_catalog.proofs.phase.has_repeat.Given as goal

abbrev pub invariant-loop-price : goal.invariant-loop-price
invariant-loop-price l = has_repeat l.rest ≡ has_repeat l.prices

abbrev pub decreases-loop-price : goal.decreases-loop-price
decreases-loop-price l = length l.rest
