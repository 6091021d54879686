-- The text of overdue states: its document, read key by key, and the first fault.
use Rattle.std.specs.Prelude.{List, [], ◌∷◌, codes}
use Rattle.toml.specs.Data.{Members}
use Rattle.kb_overdue.specs.declared.state.OverdueState.{OverdueState}
use Rattle.kb_catalog_text.specs.Reads.{Read, and_then, keys_read, is_among, read_or, read_table, read_array}
use Rattle.kb_catalog_text.specs.StateEntries.{state_in}

-- the states, most severe first
unfoldable pub states_in : Members → Read (List OverdueState)
states_in members =
    and_then (keys_read (is_among (codes "state" ∷ [])) members) (λ _.
    read_or [] (read_array (read_table state_in)) (codes "state") members)
