use Rattle.kb_lane.proofs.DrainBounds as laws
use Rattle.kb_lane.proofs.drain_bounds.drains_are_bounded.Goals as goal

pub returns : goal.returns
returns g c = laws.drains_are_bounded g.D.Disk.told.fault_count g.G.Gateway.told
