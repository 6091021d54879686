-- The stays so far are cut, and those that are left are as they were.
use Rattle.std.proofs.Common.{◌≡◌, ◌++◌, take, drop, map}
use Rattle.kb_blocking.specs.Private.Stays.{cut_by}
use Rattle.kb_blocking.proofs.stay.cut.Given as goal

abbrev pub invariant-loop-stay : goal.invariant-loop-stay
invariant-loop-stay l =
    l.stay-items ≡ map (cut_by l.state) (take l.stay-index l.fn.stays) ++ drop l.stay-index l.fn.stays
