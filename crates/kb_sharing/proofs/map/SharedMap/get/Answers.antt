-- The map is that of the tree's entries.
use Rattle.std.proofs.Common.{ap, ◌∙◌}
use Rattle.std.specs.FinMap as map
use Rattle.kb_sharing.proofs.TreeMaps.{found-get}
use Rattle.kb_sharing.proofs.map.SharedMap.get.Goals as goal

pub returns : goal.returns
returns g c = c.find.ensures ∙ found-get g.K.Key.word
    (g.K.Key.word c.args.key.now) c.self.inside.root c.self.invariant.0
    ∙ ap (λ kept. map.get kept (g.K.Key.word c.args.key.now)) c.self.view_is
