-- No entries are in order, and their map is empty.
use Rattle.std.proofs.Common.{refl}
use Rattle.kb_sharing.proofs.TreeMaps.{sorted-none, empty-sorted}
use Rattle.kb_sharing.proofs.map.SharedMap.new.Goals as goal

pub invariant_of-result : goal.invariant_of-result
invariant_of-result g c = (sorted-none g.row.V.Denot, refl)

pub returns : goal.returns
returns g c = empty-sorted g.row.V.Denot
