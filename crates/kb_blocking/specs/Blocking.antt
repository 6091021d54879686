-- Blocking states: the last one of a scope and service on a day, and whether a flag is on.
use Rattle.std.specs.Prelude.{ℕ, ◌-◌, Bool, true, false, not, ◌&&◌, nat_eq, nat_le, bytes_eq, List, fold}
use Rattle.std.specs.Prelude.{filter, if◌then◌else◌, Option, Some, None}
use Rattle.std.specs.List.{list_any}
use Rattle.kb_blocking.specs.declared.state.Scope.{Scope}
use Rattle.kb_blocking.specs.declared.state.Scope.TheVariants.{Account, Bundle, Subscription}
use Rattle.kb_blocking.specs.declared.state.Flag.{Flag}
use Rattle.kb_blocking.specs.declared.state.Flag.TheVariants.{Change, Entitlement, Billing}
use Rattle.kb_blocking.specs.declared.state.Flags.{Flags}
use Rattle.kb_blocking.specs.declared.state.BlockState.{BlockState}
use Rattle.kb_blocking.specs.declared.state.Chain.{Chain}

-- the most states that there may be
abbrev pub max_states : ℕ
max_states = 4096

-- two scopes are the same
abbrev pub same_scope : Scope → Scope → Bool
same_scope Account Account = true
same_scope Account (Bundle place) = false
same_scope Account (Subscription place) = false
same_scope (Bundle place) Account = false
same_scope (Bundle place) (Bundle other) = nat_eq place other
same_scope (Bundle place) (Subscription other) = false
same_scope (Subscription place) Account = false
same_scope (Subscription place) (Bundle other) = false
same_scope (Subscription place) (Subscription other) = nat_eq place other

-- two states have one scope and service
abbrev pub same_matter : BlockState → BlockState → Bool
same_matter state other = same_scope state.scope other.scope && bytes_eq state.service other.service

-- a place is there, and is this one
abbrev pub is_place : Option ℕ → ℕ → Bool
is_place None place = false
is_place (Some other) place = nat_eq other place

-- a scope is on a chain: the account always is
abbrev pub is_on_chain : Chain → Scope → Bool
is_on_chain chain Account = true
is_on_chain chain (Bundle place) = is_place chain.bundle place
is_on_chain chain (Subscription place) = is_place chain.subscription place

-- a state has a flag on
abbrev pub has_flag : Flag → Flags → Bool
has_flag Change flags = flags.change
has_flag Entitlement flags = flags.entitlement
has_flag Billing flags = flags.billing

-- of what was found and a state that was accepted after it, the one with the later day; of equal days the
-- later accepted
abbrev pub later_of : Option BlockState → BlockState → Option BlockState
later_of None state = Some state
later_of (Some found) state = if nat_le found.day state.day then Some state else Some found

-- the last state of the scope and service of a state, dated on or before a day
abbrev pub last_on : List BlockState → BlockState → ℕ → Option BlockState
last_on states matter day =
    fold later_of None (filter (λ state. same_matter matter state && nat_le state.day day) states)

-- a state is there, and has a flag on
abbrev pub blocks : Flag → Option BlockState → Bool
blocks flag None = false
blocks flag (Some state) = has_flag flag state.flags

-- a flag is on for a chain on a day: of some scope on the chain and some service the last state has it on
unfoldable pub is_on : List BlockState → Chain → Flag → ℕ → Bool
is_on states chain flag day =
    list_any (λ state. is_on_chain chain state.scope && blocks flag (last_on states state day)) states

-- two truths differ
abbrev pub differ : Bool → Bool → Bool
differ true other = not other
differ false other = other

-- a flag differs on a day from what it is on the day before
abbrev pub turns : List BlockState → Chain → Flag → ℕ → Bool
turns states chain flag day = differ (is_on states chain flag day) (is_on states chain flag (day - 1))
