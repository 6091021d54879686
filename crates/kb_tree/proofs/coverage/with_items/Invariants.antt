-- The items so far and those that are left are all.
use Rattle.std.proofs.Common.{◌≡◌, ◌+◌, ◌++◌, drop}
use Rattle.kb_tree.specs.Items.{numbered}
use Rattle.kb_tree.proofs.coverage.with_items.Given as goal

abbrev pub invariant-loop-item : goal.invariant-loop-item
invariant-loop-item l =
    (l.number ≡ l.fn.first + l.item-index)
    × (l.all ++ numbered l.number (drop l.item-index l.more) ≡ l.items ++ numbered l.fn.first l.more)
