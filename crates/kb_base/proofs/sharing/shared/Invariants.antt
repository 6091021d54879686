-- The members so far are shared.
use Rattle.std.proofs.Common.{◌≡◌, take, map}
use Rattle.std.specs.Arc.{arc_value}
use Rattle.kb_base.proofs.sharing.shared.Given as goal

abbrev pub invariant-loop-member : goal.invariant-loop-member
invariant-loop-member g l = map arc_value l.copy.items ≡ map arc_value (take l.member-index l.members)
