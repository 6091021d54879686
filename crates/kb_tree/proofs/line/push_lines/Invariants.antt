-- The lines so far and those of the items that are left are all.
use Rattle.std.proofs.Common.{◌≡◌, ◌++◌, drop, All}
use Rattle.kb_tree.specs.Items.{cell_at}
use Rattle.kb_tree.specs.Issues.{lines_of}
use Rattle.kb_tree.specs.ItemLines.{IsItemLine}
use Rattle.kb_tree.proofs.line.push_lines.Given as goal

abbrev pub invariant-loop-item : goal.invariant-loop-item
invariant-loop-item l =
    (l.lines.items ++ lines_of l.sub l.recurring (cell_at l.coverage) (drop l.item-index l.items)
    ≡ l.fn.lines.items ++ lines_of l.sub l.recurring (cell_at l.coverage) l.items)
    × (All IsItemLine l.fn.lines.items → All IsItemLine l.lines.items)
