-- The stays that are left decide as all do.
use Rattle.std.proofs.Common.{◌≡◌, drop}
use Rattle.std.specs.List.{list_any}
use Rattle.kb_blocking.specs.Private.Stays.{counts_on}
use Rattle.kb_blocking.proofs.stay.is_any_on.Given as goal

abbrev pub invariant-loop-stay : goal.invariant-loop-stay
invariant-loop-stay l =
    list_any (counts_on l.chain l.flag l.day) (drop l.stay-index l.stays)
    ≡ list_any (counts_on l.chain l.flag l.day) l.stays
