-- The entries of an overdue text: what the table of a state says, with its keys in order, and the first
-- fault.
use Rattle.std.specs.Prelude.{ℕ, List, [], ◌∷◌, codes, Ok}
use Rattle.toml.specs.Data.{Members, as_bool}
use Rattle.kb_overdue.specs.declared.state.OverdueState.{OverdueState}
use Rattle.kb_catalog_text.specs.Reads.{Read, and_then, keys_read, is_among, read_as, required, optional}
use Rattle.kb_catalog_text.specs.Kinds.{name_in, threshold_in}

-- a state
abbrev pub state_keys : List (List ℕ)
state_keys =
    codes "name" ∷ codes "days" ∷ codes "count" ∷ codes "total" ∷ codes "block_change"
    ∷ codes "block_entitlement" ∷ codes "block_billing" ∷ []

unfoldable pub state_in : Members → Read OverdueState
state_in members =
    and_then (keys_read (is_among state_keys) members) (λ _.
    and_then (required (read_as name_in) (codes "name") members) (λ name.
    and_then (optional (read_as threshold_in) (codes "days") members) (λ days.
    and_then (optional (read_as threshold_in) (codes "count") members) (λ count.
    and_then (optional (read_as threshold_in) (codes "total") members) (λ total.
    and_then (required (read_as as_bool) (codes "block_change") members) (λ block_change.
    and_then (required (read_as as_bool) (codes "block_entitlement") members) (λ block_entitlement.
    and_then (required (read_as as_bool) (codes "block_billing") members) (λ block_billing.
    Ok (record {
      name = name;
      days = days;
      count = count;
      total = total;
      block_change = block_change;
      block_entitlement = block_entitlement;
      block_billing = block_billing;
    })))))))))
