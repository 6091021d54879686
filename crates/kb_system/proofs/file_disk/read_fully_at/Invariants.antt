use Rattle.std.proofs.Common.{◌≤◌, length}
use Rattle.kb_system.proofs.file_disk.read_fully_at.Given as goal

-- what came fits
abbrev pub invariant-loop : goal.invariant-loop
invariant-loop g l = l.filled ≤ length l.buf
