-- What is read so far, before what the rest is read as, is what all is read as.
use Rattle.std.proofs.Common.{◌≡◌, Ok, ◌++◌, drop}
use Rattle.toml.specs.View.{items_view}
use Rattle.kb_catalog_text.specs.Reads.{and_then, read_items}
use Rattle.kb_catalog_text.proofs.from_value.read_items.Given as goal

abbrev pub invariant-loop-item : goal.invariant-loop-item
invariant-loop-item g l =
    and_then (read_items g.T.FromValue.reads l.key (items_view (drop l.item-index l.items)))
    (λ rest. Ok (l.elements ++ rest))
    ≡ read_items g.T.FromValue.reads l.key (items_view l.items)
