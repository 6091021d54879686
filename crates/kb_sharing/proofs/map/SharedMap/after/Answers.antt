-- The map is that of the tree's entries.
use Rattle.std.proofs.Common.{ap, ◌∙◌}
use Rattle.std.specs.FinMap as map
use Rattle.kb_sharing.specs.Keys.{first_behind}
use Rattle.kb_sharing.proofs.TreeMaps.{tree_behind-entries}
use Rattle.kb_sharing.proofs.map.SharedMap.after.Goals as goal

pub returns : goal.returns
returns g c = c.after.ensures
    ∙ tree_behind-entries g.K.Key.word (g.K.Key.word c.args.key.now) c.self.inside.root c.self.invariant.0
    ∙ ap (λ kept. first_behind (g.K.Key.word c.args.key.now) (map.entries kept)) c.self.view_is
