-- A start, a change, a cancellation and its end: what they make of a timeline, and their refusals in order.
use Rattle.std.specs.Prelude.{ℕ, Bool, true, false, not, nat_lt, nat_le, List, [], ◌∷◌, length, Option, Some}
use Rattle.std.specs.Prelude.{None, is_some, unwrap_or}
use Rattle.kb_days.specs.Calendar.{last_day}
use Rattle.kb_timeline.specs.declared.entry.Entry.{Entry}
use Rattle.kb_timeline.specs.declared.entry.PlanRef.{PlanRef}
use Rattle.kb_timeline.specs.declared.subscription.Subscription.{Subscription}
use Rattle.kb_timeline.specs.EntryDays.{max_entries, is_before_start, with_change as with_entry}
use Rattle.kb_timeline.specs.TimelineEdits.{max_subscriptions, bundle_named, subscription_named}
use Rattle.kb_timeline.specs.TimelineEdits.{TimelineValue, created, changed, cancelled, uncancelled}
use Rattle.kb_blocking.specs.declared.state.Flag.TheVariants.{Change as OfChanges}
use Rattle.kb_blocking.specs.declared.state.Chain.{Chain}
use Rattle.kb_blocking.specs.Blocking.{is_on}
use Rattle.kb_codec.specs.declared.action.Create.{Create}
use Rattle.kb_codec.specs.declared.action.Change.{Change}
use Rattle.kb_codec.specs.declared.action.Cancel.{Cancel}
use Rattle.kb_due.specs.Facts.{FactsValue, subscription_at, chain_of}
use Rattle.kb_book.specs.Wishes.{asked_day, version_of, plan_asked, category_on}
use Rattle.kb_book.specs.Prices.{refers_to_lacking}
use Rattle.kb_book.specs.Effects.{change_effect, cancel_effect}
use Rattle.kb_book.specs.BundleRules.{may_join, breaks_bundle, is_over, is_addon}
use Rattle.kb_book.specs.declared.refusal.Refusal.TheVariants as refusal
use Rattle.kb_book.specs.Rows.{Rows, limit}
use Rattle.kb_codec.specs.declared.action.Uncancel.{Uncancel}
use Rattle.kb_book.specs.declared.wish.Wish.{Wish}
use Rattle.kb_book.specs.Anchors.{create_anchor, change_anchor}

-- a plan as a start asks for it, and as a change does
abbrev pub wish_of : Create → Wish
wish_of c = record { product = c.product; period = c.period; list = c.list }

abbrev pub new_wish_of : Change → Wish
new_wish_of c = record { product = c.product; period = c.period; list = c.list }

-- a plan, where one was found
abbrev pub some_plan : Option PlanRef → PlanRef
some_plan plan = unwrap_or plan (record { version = 0; list = 0; plan = 0 })

-- the first entry of a subscription that starts on a day
abbrev pub start_entry : FactsValue → ℕ → Create → Entry
start_entry facts day c = record {
  day = day;
  plan = some_plan (plan_asked facts.catalog day (wish_of c));
  anchor = unwrap_or (create_anchor facts (bundle_named facts.timeline c.bundle) day (wish_of c)) day;
}

-- a start on a day
abbrev pub started_on : FactsValue → ℕ → Create → TimelineValue
started_on facts day c =
    created facts.timeline c.bundle c.subscription (is_addon (category_on facts.catalog day c.product))
    (start_entry facts day c)

abbrev pub started : FactsValue → ℕ → Create → TimelineValue
started facts today c = started_on facts (asked_day c.day today) c

-- the entry of a change of the subscription at a place, asked for on one day, that takes effect on another
abbrev pub change_entry : FactsValue → Change → ℕ → ℕ → ℕ → Entry
change_entry facts c sub day effect = record {
  day = effect;
  plan = some_plan (plan_asked facts.catalog effect (new_wish_of c));
  anchor = unwrap_or (change_anchor facts sub day effect (new_wish_of c)) effect;
}

-- an edit of the subscription of a name, if it is there
abbrev pub at_place : TimelineValue → (ℕ → TimelineValue) → Option ℕ → TimelineValue
at_place timeline edit None = timeline
at_place timeline edit (Some sub) = edit sub

abbrev pub at_named : TimelineValue → List ℕ → (ℕ → TimelineValue) → TimelineValue
at_named timeline name edit = at_place timeline edit (subscription_named timeline name)

-- a change of the subscription at a place that is asked for on a day, and takes effect on another, or on that
-- one if there is no other
abbrev pub changed_at : FactsValue → Change → ℕ → Option ℕ → ℕ → TimelineValue
changed_at facts c day effect sub =
    changed facts.timeline sub (change_entry facts c sub day (unwrap_or effect day))

abbrev pub with_change : FactsValue → Option ℕ → ℕ → Change → TimelineValue
with_change facts billed today c =
    at_named facts.timeline c.subscription
    (λ sub. changed_at facts c (asked_day c.day today)
    (change_effect facts sub billed (asked_day c.day today) (new_wish_of c)) sub)

-- and a cancellation
abbrev pub cancelled_at : FactsValue → ℕ → Option ℕ → ℕ → TimelineValue
cancelled_at facts day effect sub = cancelled facts.timeline sub (unwrap_or effect day)

abbrev pub with_cancel : FactsValue → Option ℕ → ℕ → Cancel → TimelineValue
with_cancel facts billed today c =
    at_named facts.timeline c.subscription
    (λ sub. cancelled_at facts (asked_day c.day today)
    (cancel_effect facts sub billed (asked_day c.day today)) sub)

-- and its end
abbrev pub with_uncancel : TimelineValue → Uncancel → TimelineValue
with_uncancel timeline c = at_named timeline c.subscription (uncancelled timeline)

-- whose blocking states stop a start in a bundle
abbrev pub bundle_chain : Option ℕ → Chain
bundle_chain bundle = record { bundle = bundle; subscription = None }

-- the refusals of a start
abbrev pub create_rows : FactsValue → ℕ → Create → Rows
create_rows facts today c =
    (not (is_some (version_of facts.catalog day)), refusal.NoCatalog)
    ∷ (not (is_some plan), refusal.NoPlan)
    ∷ (refers_to_lacking facts.catalog facts.currency plan, refusal.NoPrice)
    ∷ (is_some (subscription_named facts.timeline c.subscription), refusal.SubscriptionExists)
    ∷ (not (may_join facts bundle c.product day), refusal.BundleRule)
    ∷ (is_on facts.blocks (bundle_chain bundle) OfChanges day, refusal.ChangeBlocked)
    ∷ (nat_le max_subscriptions (length facts.timeline.subscriptions), limit 2 max_subscriptions) ∷ []
  where
    day : ℕ
    day = asked_day c.day today

    bundle : Option ℕ
    bundle = bundle_named facts.timeline c.bundle

    plan : Option PlanRef
    plan = plan_asked facts.catalog (asked_day c.day today) (wish_of c)

-- a day of effect is after the last day that a command may name
abbrev pub is_too_late : Option ℕ → Bool
is_too_late None = false
is_too_late (Some effect) = nat_lt last_day effect

-- with a change there would be too many entries, once those that it takes away are gone
abbrev pub has_too_many : Subscription → Entry → Bool
has_too_many subscription change = nat_lt max_entries (length (with_entry subscription.entries change))

-- and is refused for it
abbrev pub entry_rows : Subscription → Entry → Rows
entry_rows subscription change = (has_too_many subscription change, limit 3 max_entries) ∷ []

-- The refusals of a change of a subscription that is there, which is asked for on one day, and takes effect
-- on another. Where there is no such day, the rows behind that look at the day asked for, and don't matter.
abbrev pub change_rows_by : FactsValue → Change → ℕ → Subscription → ℕ → Option ℕ → Rows
change_rows_by facts c sub subscription day effect =
    (is_before_start subscription.entries day, refusal.BeforeStart)
    ∷ (is_over facts subscription day, refusal.Cancelled)
    ∷ (is_on facts.blocks (chain_of subscription sub) OfChanges day, refusal.ChangeBlocked)
    ∷ (not (is_some effect), refusal.PolicyIllegal)
    ∷ (is_too_late effect, limit 6 last_day)
    ∷ (not (is_some plan), refusal.NoPlan)
    ∷ (refers_to_lacking facts.catalog facts.currency plan, refusal.NoPrice)
    ∷ (breaks_bundle facts sub subscription day (unwrap_or effect day) c.product, refusal.BundleRule)
    ∷ entry_rows subscription (change_entry facts c sub day (unwrap_or effect day))
  where
    plan : Option PlanRef
    plan = plan_asked facts.catalog (unwrap_or effect day) (new_wish_of c)

abbrev pub change_rows_of : FactsValue → Option ℕ → ℕ → Change → ℕ → Subscription → Rows
change_rows_of facts billed today c sub subscription =
    change_rows_by facts c sub subscription (asked_day c.day today)
    (change_effect facts sub billed (asked_day c.day today) (new_wish_of c))

-- the refusals of a cancellation of a subscription that is there
abbrev pub cancel_rows_by : FactsValue → Subscription → ℕ → Option ℕ → Rows
cancel_rows_by facts subscription day effect =
    (is_before_start subscription.entries day, refusal.BeforeStart)
    ∷ (is_over facts subscription day, refusal.Cancelled)
    ∷ (not (is_some effect), refusal.PolicyIllegal)
    ∷ (is_too_late effect, limit 6 last_day) ∷ []

abbrev pub cancel_rows_of : FactsValue → Option ℕ → ℕ → Cancel → ℕ → Subscription → Rows
cancel_rows_of facts billed today c sub subscription =
    cancel_rows_by facts subscription (asked_day c.day today)
    (cancel_effect facts sub billed (asked_day c.day today))

-- the refusals of the end of a cancellation
abbrev pub uncancel_rows_of : ℕ → Subscription → Rows
uncancel_rows_of sub subscription = (not (is_some subscription.cancel), refusal.NotCancelled) ∷ []

-- the refusals of what is asked of the subscription at a place
abbrev pub of_subscription : (ℕ → Subscription → Rows) → ℕ → Option Subscription → Rows
of_subscription rows sub None = (true, refusal.NoSubscription) ∷ []
of_subscription rows sub (Some subscription) = rows sub subscription

abbrev pub of_place : FactsValue → (ℕ → Subscription → Rows) → Option ℕ → Rows
of_place facts rows None = (true, refusal.NoSubscription) ∷ []
of_place facts rows (Some sub) = of_subscription rows sub (subscription_at facts sub)

-- and of that of a name
abbrev pub of_named : FactsValue → List ℕ → (ℕ → Subscription → Rows) → Rows
of_named facts name rows = of_place facts rows (subscription_named facts.timeline name)
