-- The stays that are left, from what was found, give what all give.
use Rattle.std.proofs.Common.{◌≡◌, drop, fold}
use Rattle.kb_blocking.specs.Private.Stays.{sooner, first_after}
use Rattle.kb_blocking.proofs.stay.first_after.Given as goal

abbrev pub invariant-loop-stay : goal.invariant-loop-stay
invariant-loop-stay l =
    fold (sooner l.state) l.found (drop l.stay-index l.stays) ≡ first_after l.stays l.state
