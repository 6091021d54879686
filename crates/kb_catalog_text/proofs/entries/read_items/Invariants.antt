-- What is read so far, before what the rest is read as, is what all is read as.
use Rattle.std.proofs.Common.{◌≡◌, Ok, ◌++◌, drop}
use Rattle.toml.specs.View.{items_view}
use Rattle.kb_catalog_text.specs.Reads.{and_then, read_items, read_table}
use Rattle.kb_catalog_text.proofs.entries.read_items.Given as goal

abbrev pub invariant-loop-item : goal.invariant-loop-item
invariant-loop-item g l =
    and_then (read_items (read_table g.T.Entry.says) l.key (items_view (drop l.item-index l.items)))
    (λ rest. Ok (l.entries ++ rest))
    ≡ read_items (read_table g.T.Entry.says) l.key (items_view l.items)
