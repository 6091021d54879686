use Rattle.std.proofs.Common.{◌-◌, length}
use Rattle.kb_journal.specs.Private.Parts.{IsEnd}
use Rattle.kb_journal.proofs.ending.find_end.Given as goal

abbrev pub invariant-loop-rest : goal.invariant-loop-rest
invariant-loop-rest l = IsEnd l.count l.gate l.bytes

abbrev pub decreases-loop-rest : goal.decreases-loop-rest
decreases-loop-rest l = length l.bytes - l.gate
