-- A pause, its end and a block: the blocking states that they and a transition leave, and their refusals in
-- order.
use Rattle.std.specs.Prelude.{ℕ, Bool, not, ◌||◌, nat_le, List, [], ◌∷◌, length, codes, bytes_eq, is_some}
use Rattle.std.specs.Prelude.{true, false, ◌++◌, Option, Some, None, option_map}
use Rattle.kb_timeline.specs.TimelineEdits.{TimelineValue, bundle_named, subscription_named}
use Rattle.kb_blocking.specs.declared.state.BlockState.{BlockState}
use Rattle.kb_blocking.specs.Blocking.{max_states}
use Rattle.kb_codec.specs.declared.action.Block.{Block}
use Rattle.kb_codec.specs.declared.scope.BlockScope.{BlockScope}
use Rattle.kb_codec.specs.declared.scope.BlockScope.TheVariants as scopes
use Rattle.kb_book.specs.declared.refusal.Refusal.TheVariants as refusal
use Rattle.kb_book.specs.Rows.{Rows, limit}
use Rattle.kb_blocking.specs.declared.state.Scope.{Scope}
use Rattle.kb_blocking.specs.declared.state.Scope.TheVariants as scope
use Rattle.kb_blocking.specs.declared.state.Flags.{Flags}
use Rattle.kb_overdue.specs.declared.state.OverdueState.{OverdueState}

-- a blocking state is accepted after the others
abbrev pub with_state : List BlockState → BlockState → List BlockState
with_state blocks state = blocks ++ state ∷ []

-- what a pause blocks, and its end
abbrev pub all_flags : Flags
all_flags = record { change = true; entitlement = true; billing = true }

abbrev pub no_flags : Flags
no_flags = record { change = false; entitlement = false; billing = false }

-- a state of the entitlement of the bundle at a place, from a day on
abbrev pub entitlement_state : ℕ → List ℕ → ℕ → Flags → BlockState
entitlement_state place state day flags = record {
  scope = scope.Bundle place;
  service = codes "entitlement-service";
  state = state;
  day = day;
  flags = flags;
}

abbrev pub with_entitlement : List BlockState → Option ℕ → List ℕ → ℕ → Flags → List BlockState
with_entitlement blocks None state day flags = blocks
with_entitlement blocks (Some place) state day flags =
    with_state blocks (entitlement_state place state day flags)

-- a pause of the bundle of a name from a day on, and its end
abbrev pub paused : TimelineValue → List BlockState → List ℕ → ℕ → List BlockState
paused timeline blocks bundle day =
    with_entitlement blocks (bundle_named timeline bundle) (codes "ENT_BLOCKED") day all_flags

abbrev pub resumed : TimelineValue → List BlockState → List ℕ → ℕ → List BlockState
resumed timeline blocks bundle day =
    with_entitlement blocks (bundle_named timeline bundle) (codes "ENT_CLEAR") day no_flags

-- what a block speaks of, by its place, if it is there
abbrev pub scope_of : TimelineValue → BlockScope → List ℕ → Option Scope
scope_of timeline scopes.Account target = Some scope.Account
scope_of timeline scopes.Bundle target =
    option_map (λ place. scope.Bundle place) (bundle_named timeline target)
scope_of timeline scopes.Subscription target =
    option_map (λ place. scope.Subscription place) (subscription_named timeline target)

-- the state that a block sets from a day on
abbrev pub block_state : Block → ℕ → Scope → BlockState
block_state c day scope = record {
  scope = scope;
  service = c.service;
  state = c.state;
  day = day;
  flags = c.flags;
}

abbrev pub with_scope : List BlockState → Block → ℕ → Option Scope → List BlockState
with_scope blocks c day None = blocks
with_scope blocks c day (Some scope) = with_state blocks (block_state c day scope)

-- a block from a day on
abbrev pub blocked : TimelineValue → List BlockState → Block → ℕ → List BlockState
blocked timeline blocks c day = with_scope blocks c day (scope_of timeline c.scope c.target)

-- the flags of an overdue state; CLEAR has none
abbrev pub overdue_flags : Option OverdueState → Flags
overdue_flags None = no_flags
overdue_flags (Some state) = record {
  change = state.block_change;
  entitlement = state.block_entitlement;
  billing = state.block_billing;
}

-- the name of an overdue state, as a blocking state has it
abbrev pub overdue_name : Option OverdueState → List ℕ
overdue_name None = codes "CLEAR"
overdue_name (Some state) = state.name

-- what a transition into a state blocks from a day on
abbrev pub transition_state : Option OverdueState → ℕ → BlockState
transition_state state day = record {
  scope = scope.Account;
  service = codes "overdue-service";
  state = overdue_name state;
  day = day;
  flags = overdue_flags state;
}

-- one more blocking state would be one too many
abbrev pub has_all_states : List BlockState → Bool
has_all_states blocks = nat_le max_states (length blocks)

-- and is refused for it
abbrev pub state_rows : List BlockState → Rows
state_rows blocks = (has_all_states blocks, limit 4 max_states) ∷ []

-- the refusals of a pause, and of its end
abbrev pub pause_rows : TimelineValue → List BlockState → List ℕ → Rows
pause_rows timeline blocks bundle =
    (not (is_some (bundle_named timeline bundle)), refusal.NoSubscription) ∷ state_rows blocks

-- a service that is the platform's own
abbrev pub is_reserved : List ℕ → Bool
is_reserved service =
    bytes_eq service (codes "entitlement-service") || bytes_eq service (codes "overdue-service")

-- the target of a block is there: an account by its name, a bundle or a subscription by its own
abbrev pub has_target : List ℕ → TimelineValue → BlockScope → List ℕ → Bool
has_target account timeline scopes.Account target = bytes_eq target account
has_target account timeline scopes.Bundle target = is_some (bundle_named timeline target)
has_target account timeline scopes.Subscription target = is_some (subscription_named timeline target)

-- the refusals of a block
abbrev pub block_rows : List ℕ → TimelineValue → List BlockState → Block → Rows
block_rows account timeline blocks c =
    (is_reserved c.service, refusal.BadName)
    ∷ (not (has_target account timeline c.scope c.target), refusal.NoSubscription)
    ∷ state_rows blocks
