-- The keys that are left give what all give.
use Rattle.std.proofs.Common.{◌≡◌}
use Rattle.toml.specs.View.{members_view}
use Rattle.kb_catalog_text.specs.Reads.{first_failing}
use Rattle.kb_catalog_text.proofs.keys.first_unknown.Given as goal

abbrev pub invariant-loop-key : goal.invariant-loop-key
invariant-loop-key g l =
    first_failing (g.K.Keys.known l.keys) (members_view l.key-iterator)
    ≡ first_failing (g.K.Keys.known l.keys) (members_view l.table.entries)
