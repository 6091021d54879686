-- The map is that of the tree's entries.
use Rattle.std.proofs.Common.{ap, sym, ◌∙◌}
use Rattle.std.specs.FinMap as map
use Rattle.kb_sharing.proofs.TreeMaps.{len-sorted}
use Rattle.kb_sharing.proofs.map.SharedMap.len.Goals as goal

pub returns : goal.returns
returns g c = c.self.invariant.1 ∙ sym (len-sorted _ c.self.invariant.0) ∙ ap map.len c.self.view_is
