use Rattle.std.proofs.Common.{◌≡◌, ◌++◌}
use Rattle.kb_codec.specs.Entries.{payloads}
use Rattle.kb_lane.proofs.replayed.replay_all.Given as goal

abbrev pub invariant-loop-bytes : goal.invariant-loop-bytes
invariant-loop-bytes l = l.records ≡ payloads l.past ++ l.bytes-iterator
