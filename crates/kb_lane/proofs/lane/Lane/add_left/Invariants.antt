use Rattle.std.proofs.Common.{◌≡◌, ◌++◌, drop}
use Rattle.kb_lane.specs.Private.Looking.{left_of}
use Rattle.kb_lane.proofs.lane.Lane.add_left.Given as goal

abbrev pub invariant-loop-key : goal.invariant-loop-key
invariant-loop-key g l = l.payments.items ++ left_of l.self l.account (drop l.key-index l.keys)
    ≡ l.initial.payments.items ++ left_of l.self l.account l.keys
