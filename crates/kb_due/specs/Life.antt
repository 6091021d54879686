-- When a subscription is live.
use Rattle.std.specs.Prelude.{ℕ, ◌+◌, ◌-◌, Bool, false, not, ◌&&◌, ◌||◌, nat_le, List, [], ◌∷◌, Option, Some}
use Rattle.std.specs.Prelude.{None, option_and_then}
use Rattle.std.specs.List.{list_all, range_with_len}
use Rattle.kb_catalog.specs.declared.version.Version.{Version}
use Rattle.kb_catalog.specs.declared.product.Product.{Product}
use Rattle.kb_catalog.specs.Products.{has_name}
use Rattle.kb_catalog.specs.VersionProducts.{product_named}
use Rattle.kb_timeline.specs.declared.entry.Entry.{Entry}
use Rattle.kb_timeline.specs.declared.subscription.Subscription.{Subscription}
use Rattle.kb_timeline.specs.EntryDays.{entry_on}
use Rattle.kb_timeline.specs.TimelineEdits.{lead_of}
use Rattle.kb_due.specs.Facts.{FactsValue, subscription_at}
use Rattle.kb_due.specs.Governing.{Choice, choice_of}

-- there is a start on or before a day
abbrev pub has_started : List Entry → ℕ → Bool
has_started [] day = false
has_started (start ∷ changes) day = nat_le start.day day

-- there is a cancellation on or before a day
abbrev pub is_cancelled : Option ℕ → ℕ → Bool
is_cancelled None day = false
is_cancelled (Some cancel) day = nat_le cancel day

-- a subscription runs on a day: it has started, and isn't cancelled by then
abbrev pub is_running : Subscription → ℕ → Bool
is_running subscription day = has_started subscription.entries day
    && not (is_cancelled subscription.cancel day)

-- what the entry that governs a day chose
abbrev pub choice_on : List Version → List Entry → ℕ → Option Choice
choice_on catalog entries day =
    option_and_then (λ (entry : Entry). choice_of catalog entry.plan) (entry_on entries day)

-- the add-ons that may be had with the product of a plan
abbrev pub available_with : Choice → List (List ℕ)
available_with choice = of_product (product_named choice.version choice.plan.product)
  where
    of_product : Option Product → List (List ℕ)
    of_product None = []
    of_product (Some product) = product.available

-- on a day, the lead's product has an add-on's product among its available ones, by the version of the lead's
-- entry
abbrev pub is_offered : List Version → Subscription → Subscription → ℕ → Bool
is_offered catalog lead addon day =
    of_both (choice_on catalog lead.entries day) (choice_on catalog addon.entries day)
  where
    of_both : Option Choice → Option Choice → Bool
    of_both None addon = false
    of_both (Some lead) None = false
    of_both (Some lead) (Some addon) = has_name (available_with lead) addon.plan.product

-- the days from the start of some entries to a day
abbrev pub days_from_start : List Entry → ℕ → List ℕ
days_from_start [] day = []
days_from_start (start ∷ changes) day = range_with_len start.day (day + 1 - start.day)

-- an add-on's lead runs on a day, and offers it
abbrev pub is_kept_on : List Version → Subscription → Subscription → ℕ → Bool
is_kept_on catalog lead addon day = is_running lead day && is_offered catalog lead addon day

-- and does so on every day from the add-on's start to a day
unfoldable pub is_kept : List Version → Subscription → Subscription → ℕ → Bool
is_kept catalog lead addon day = list_all (is_kept_on catalog lead addon) (days_from_start addon.entries day)

-- the lead of a subscription's bundle keeps it
abbrev pub is_kept_by : List Version → Option Subscription → Subscription → ℕ → Bool
is_kept_by catalog None addon day = false
is_kept_by catalog (Some lead) addon day = is_kept catalog lead addon day

-- the lead of a subscription's bundle
abbrev pub lead_subscription : FactsValue → Subscription → Option Subscription
lead_subscription facts subscription =
    option_and_then (subscription_at facts) (lead_of facts.timeline subscription.bundle)

-- a subscription is live on a day: it runs, and as an add-on it has been kept by its lead on every day since
-- its start
abbrev pub is_live_of : FactsValue → Subscription → ℕ → Bool
is_live_of facts subscription day =
    is_running subscription day
    && (not subscription.addon || is_kept_by facts.catalog (lead_subscription facts subscription) subscription
    day)

-- the subscription at a place is live
abbrev pub is_live : FactsValue → ℕ → ℕ → Bool
is_live facts sub day = of_subscription (subscription_at facts sub)
  where
    of_subscription : Option Subscription → Bool
    of_subscription None = false
    of_subscription (Some subscription) = is_live_of facts subscription day
