-- The tree grows as the entries do.
use Rattle.std.proofs.Common.{ap, ◌∙◌}
use Rattle.std.specs.Arc.{arc_value}
use Rattle.std.specs.FinMap.Entries.{put}
use Rattle.kb_sharing.specs.Keys.{by_words}
use Rattle.kb_sharing.specs.Private.Nodes.{pair_of, tree_entries}
use Rattle.kb_sharing.proofs.TreeMaps.{grown-entries}
use Rattle.kb_sharing.proofs.map.growth.tree_with.Goals as goal

pub returns : goal.returns
returns g c = c.in_ok-longer.ensures
    ∙ grown-entries g.K.Key.word (pair_of g.K.Key.word (arc_value c.in_ok-entry.entry)) c.args.tree.now
    c.requires
    ∙ ap (λ entry. put by_words (g.K.Key.word entry.key) entry.value
    (tree_entries g.K.Key.word c.args.tree.now))
    c.in_ok-entry.ensures.ok
