-- The map is that of the tree's entries.
use Rattle.std.proofs.Common.{ap, sym, ◌∙◌, slice_get}
use Rattle.std.specs.FinMap as map
use Rattle.kb_sharing.proofs.TreeMaps.{entries-sorted}
use Rattle.kb_sharing.proofs.map.SharedMap.first.Goals as goal

pub returns : goal.returns
returns g c = c.first.ensures
    ∙ ap (λ entries. slice_get entries 0)
    (sym (entries-sorted _ c.self.invariant.0) ∙ ap map.entries c.self.view_is)
