use Rattle.std.proofs.Common.{append_assoc}
use Rattle.kb_system.proofs.path.lane_path.Goals as goal

pub returns : goal.returns
returns c = simp (append_assoc, ← c.zero_before-zero.ensures) c.format.ensures.ok
