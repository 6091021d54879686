-- The entries are in order, and those of the map with the value at the key.
use Rattle.std.proofs.Common.{ap, sym, ◌∙◌, subst, length}
use Rattle.std.specs.FinMap as map
use Rattle.kb_sharing.specs.Keys.{by_words}
use Rattle.kb_sharing.specs.Private.Nodes.{IsSorted}
use Rattle.kb_sharing.proofs.TreeMaps.{put-sorted, put-insert, length-with}
use Rattle.kb_sharing.proofs.map.SharedMap.with.Goals as goal

pub invariant_of-result : goal.invariant_of-result
invariant_of-result g c = (
  subst IsSorted (sym c.in_ok-root.ensures) (put-sorted _ c.self.invariant.0 _ _),
  c.in_ok-len.ensures ∙ length-with g.K.Key.word c.self.inside.root (g.K.Key.word c.args.key) c.args.value _
      c.self.invariant.0 c.self.invariant.1 ∙ sym (ap length c.in_ok-root.ensures),
)

pub returns : goal.returns
returns g c = ap (map.from_sorted {R = by_words}) c.in_ok-root.ensures ∙ put-insert _ c.self.invariant.0 _ _
    ∙ ap (λ kept. map.insert kept (g.K.Key.word c.args.key) c.args.value) c.self.view_is
