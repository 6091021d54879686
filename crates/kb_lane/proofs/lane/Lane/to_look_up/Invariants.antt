use Rattle.std.proofs.Common.{◌≡◌, ◌++◌, drop, take, All}
use Rattle.kb_lane.specs.Lanes.{machine_of}
use Rattle.kb_lane.specs.Private.Looking.{left_each, AreOpenIn}
use Rattle.kb_lane.proofs.lane.Lane.to_look_up.Given as goal

abbrev pub invariant-loop-account : goal.invariant-loop-account
invariant-loop-account g l =
    (l.payments.items ++ left_each l.self (drop l.account-index l.account-items)
    ≡ left_each l.self l.account-items)
    × All (AreOpenIn (machine_of l.self)) (take l.account-index l.account-items)
