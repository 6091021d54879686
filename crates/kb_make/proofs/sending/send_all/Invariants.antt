use Rattle.std.proofs.Common.{◌≡◌, ◌<◌, ◌+◌, ◌^◌, [], length}
use Rattle.kb_lane.specs.Lanes.{machine_of}
use Rattle.kb_make.specs.Private.Sending.{Completes}
use Rattle.kb_make.proofs.sending.send_all.Given as goal

-- what is left to send completes all, and each command adds one refusal at most
abbrev pub invariant-sent : goal.invariant-sent
invariant-sent l = record {
  idle : l.lane.outbox ≡ [];
  few : l.refused + length l.generator < 2 ^ 64;
  completes : Completes (machine_of l.initial.lane) l.initial.generator (machine_of l.lane)
      l.generator l.refused;
}

abbrev pub decreases-sent : goal.decreases-sent
decreases-sent l = length l.generator
