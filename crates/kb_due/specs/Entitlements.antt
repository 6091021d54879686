-- Whether what was bought may be used.
use Rattle.std.specs.Prelude.{ℕ, not, Option, option_map, if◌then◌else◌}
use Rattle.kb_timeline.specs.declared.subscription.Subscription.{Subscription}
use Rattle.kb_blocking.specs.declared.state.Flag.TheVariants.{Entitlement as OfUse}
use Rattle.kb_blocking.specs.Blocking.{is_on}
use Rattle.kb_due.specs.declared.entitlement.Entitlement.{Entitlement}
use Rattle.kb_due.specs.declared.entitlement.Entitlement.TheVariants.{Pending, Active, Blocked, Cancelled}
use Rattle.kb_due.specs.Facts.{FactsValue, subscription_at, chain_of}
use Rattle.kb_due.specs.Life.{has_started, is_live_of}

-- a subscription is pending before its start, cancelled where it isn't live from then on, blocked where the
-- entitlement flag is on, and else active
unfoldable pub state_of : FactsValue → Subscription → ℕ → ℕ → Entitlement
state_of facts subscription sub day =
    if not (has_started subscription.entries day) then Pending
    else if not (is_live_of facts subscription day) then Cancelled
    else if is_on facts.blocks (chain_of subscription sub) OfUse day then Blocked
    else Active

-- the subscription at a place
abbrev pub state_on : FactsValue → ℕ → ℕ → Option Entitlement
state_on facts sub day = option_map (λ (subscription : Subscription). state_of facts subscription sub day)
    (subscription_at facts sub)
