use Rattle.std.proofs.Common.{◌≡◌, ℕ, List, ◌++◌, take}
use Rattle.kb_base.specs.Private.Midstream.{Moves}
use Rattle.kb_runs.proofs.taking.take_bytes.Given as goal

abbrev pub invariant-loop-byte : goal.invariant-loop-byte
invariant-loop-byte g l =
    (text : List ℕ) × (l.said.items ≡ l.fn.said.items ++ text)
    × Moves g.M.LineMachine.machine l.fn.machine l.fn.pending.items
    (take l.byte-index l.bytes) l.machine l.pending.items text
