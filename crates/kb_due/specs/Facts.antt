-- What billing looks at.
use Rattle.std.specs.Prelude.{ℕ, List, Option, Some, slice_get}
use Rattle.kb_catalog.specs.declared.version.Version.{Version}
use Rattle.kb_timeline.specs.declared.subscription.Subscription.{Subscription}
use Rattle.kb_timeline.specs.TimelineEdits.{TimelineValue}
use Rattle.kb_blocking.specs.declared.state.BlockState.{BlockState}
use Rattle.kb_blocking.specs.declared.state.Chain.{Chain}

-- the versions of the catalog, and of an account its subscriptions, its blocking states, its currency and its
-- cycle day
pub record FactsValue : Type 0 where
  pub catalog : List Version
  pub timeline : TimelineValue
  pub blocks : List BlockState
  pub currency : List ℕ
  pub bcd : ℕ

-- the subscription at a place
abbrev pub subscription_at : FactsValue → ℕ → Option Subscription
subscription_at facts sub = slice_get facts.timeline.subscriptions sub

-- whose blocking states are looked at beside the account's: those of its bundle, and its own
abbrev pub chain_of : Subscription → ℕ → Chain
chain_of subscription sub = record { bundle = Some subscription.bundle; subscription = Some sub }
