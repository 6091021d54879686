-- The map is that of the tree's entries.
use Rattle.std.proofs.Common.{ap, sym, ◌∙◌}
use Rattle.std.specs.FinMap as map
use Rattle.kb_sharing.proofs.TreeMaps.{entries-sorted}
use Rattle.kb_sharing.proofs.map.SharedMap.entries.Goals as goal

pub returns : goal.returns
returns g c = c.in_ok-all.ensures ∙ sym (entries-sorted _ c.self.invariant.0) ∙ ap map.entries c.self.view_is
