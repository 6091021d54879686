-- What was added and the accounts that are left give all.
use Rattle.std.proofs.Common.{◌≡◌, drop}
use Rattle.kb_lane.specs.Lanes.{machine_of}
use Rattle.kb_make.specs.Private.Adding.{plus_all, sums_in_lane}
use Rattle.kb_make.proofs.totals.Totals.with_lane.Given as goal

abbrev pub invariant-loop-account : goal.invariant-loop-account
invariant-loop-account g l =
    plus_all l.totals (drop l.account-index (sums_in_lane (machine_of l.lane)))
    ≡ plus_all l.fn.self (sums_in_lane (machine_of l.lane))
