-- Timelines, and what an edit makes of one.
use Rattle.std.specs.Prelude.{ℕ, zero, suc, ◌≡◌, ◌<◌, ◌≤◌, ◌≢◌, Bool, false, bytes_eq, nat_eq, nat_lt, List}
use Rattle.std.specs.Prelude.{[], ◌∷◌, ◌++◌, length, slice_get, take, All, Option, Some, None, IsSome, IfSome}
use Rattle.std.specs.Prelude.{is_some, unwrap_or, option_and_then, if◌then◌else◌}
use Rattle.std.specs.List.{AllPairs, position_from}
use Rattle.kb_timeline.specs.declared.entry.Entry.{Entry}
use Rattle.kb_timeline.specs.declared.subscription.Subscription.{Subscription}
use Rattle.kb_timeline.specs.declared.edit_fault.EditFault.{EditFault}
use Rattle.kb_timeline.specs.declared.edit_fault.EditFault.TheVariants.{SubscriptionExists, Limit}
use Rattle.kb_timeline.specs.declared.edit_fault.Limit.TheVariants.{Subscriptions}
use Rattle.kb_timeline.specs.SubscriptionEdits.{change_of, change_fault_of, cancel_of, cancel_fault_of}
use Rattle.kb_timeline.specs.SubscriptionEdits.{uncancel_of, uncancel_fault_of}

-- the most subscriptions that an account has
abbrev pub max_subscriptions : ℕ
max_subscriptions = 128

-- what contracts see of a timeline: the names of the bundles, and the subscriptions, in order of creation
pub record TimelineValue : Type 0 where
  pub bundles : List (List ℕ)
  pub subscriptions : List Subscription

-- the place of the bundle, or of the subscription, of a name
abbrev pub bundle_named : TimelineValue → List ℕ → Option ℕ
bundle_named timeline name = position_from (λ (other : List ℕ). bytes_eq name other) 0 timeline.bundles

abbrev pub subscription_named : TimelineValue → List ℕ → Option ℕ
subscription_named timeline name =
    position_from (λ (sub : Subscription). bytes_eq name sub.name) 0 timeline.subscriptions

-- the place of a bundle's lead: its first subscription
abbrev pub lead_of : TimelineValue → ℕ → Option ℕ
lead_of timeline bundle =
    position_from (λ (sub : Subscription). nat_eq sub.bundle bundle) 0 timeline.subscriptions

-- a place is that of a bundle's lead: the subscription there is of the bundle, and none before it is
pub record IsLead (timeline : TimelineValue) (bundle place : ℕ) : Type 0 where
  pub of_bundle : IfSome (slice_get timeline.subscriptions place) (λ lead. lead.bundle ≡ bundle)
  pub first : All (λ (before : Subscription). before.bundle ≢ bundle) (take place timeline.subscriptions)

-- what always holds of a timeline: names are distinct, the bundle of each subscription is there, each bundle
-- has a lead, and there are no more bundles than subscriptions, and at most 128 of those
pub record IsTimeline (timeline : TimelineValue) : Type 0 where
  pub bundle_names : AllPairs (λ (one other : List ℕ). bytes_eq one other ≡ false) timeline.bundles
  pub names : AllPairs (λ (one two : Subscription). bytes_eq one.name two.name ≡ false) timeline.subscriptions
  pub placed : All (λ (sub : Subscription). sub.bundle < length timeline.bundles) timeline.subscriptions
  pub led : (bundle : ℕ) → bundle < length timeline.bundles → IsSome (lead_of timeline bundle)
  pub few : length timeline.bundles ≤ length timeline.subscriptions
  pub limit : length timeline.subscriptions ≤ max_subscriptions

-- the timeline of a new account
abbrev pub no_subscriptions : TimelineValue
no_subscriptions = record { bundles = []; subscriptions = [] }

-- the entries of the subscription at a place
abbrev pub entries_at : TimelineValue → ℕ → List Entry
entries_at timeline place = of_subscription (slice_get timeline.subscriptions place)
  where
    of_subscription : Option Subscription → List Entry
    of_subscription None = []
    of_subscription (Some subscription) = subscription.entries

-- a name is put behind some, unless it is there
abbrev pub with_name : List (List ℕ) → Option ℕ → List ℕ → List (List ℕ)
with_name names None name = names ++ name ∷ []
with_name names (Some place) name = names

-- a subscription is created behind the others, in the bundle of a name, which is created where it isn't there
abbrev pub created : TimelineValue → List ℕ → List ℕ → Bool → Entry → TimelineValue
created timeline bundle name addon first = record {
  bundles = with_name timeline.bundles (bundle_named timeline bundle) bundle;
  subscriptions = timeline.subscriptions ++ record {
    name = name;
    bundle = unwrap_or (bundle_named timeline bundle) (length timeline.bundles);
    addon = addon;
    entries = first ∷ [];
    cancel = None;
  } ∷ [];
}

-- it is refused where one has the name, and where it would be one too many
abbrev pub create_fault : TimelineValue → List ℕ → Option EditFault
create_fault timeline name =
    if is_some (subscription_named timeline name) then Some SubscriptionExists
    else if nat_lt (length timeline.subscriptions) max_subscriptions then None
    else Some (Limit Subscriptions)

-- the member at a place is edited
abbrev pub edited_at : {A : Type 0} → ℕ → (A → A) → List A → List A
edited_at place edit [] = []
edited_at zero edit (member ∷ later) = edit member ∷ later
edited_at (suc place) edit (member ∷ later) = member ∷ edited_at place edit later

-- the subscription at a place is edited
abbrev pub with_edit : TimelineValue → ℕ → (Subscription → Subscription) → TimelineValue
with_edit timeline place edit =
    record timeline { subscriptions = edited_at place edit timeline.subscriptions }

-- why an edit of the subscription at a place is refused, if it is
abbrev pub fault_at : TimelineValue → ℕ → (Subscription → Option EditFault) → Option EditFault
fault_at timeline place fault = option_and_then fault (slice_get timeline.subscriptions place)

-- a change, a cancellation and its taking back
abbrev pub changed : TimelineValue → ℕ → Entry → TimelineValue
changed timeline place change = with_edit timeline place (change_of change)

abbrev pub change_fault : TimelineValue → ℕ → Entry → Option EditFault
change_fault timeline place change = fault_at timeline place (change_fault_of change)

abbrev pub cancelled : TimelineValue → ℕ → ℕ → TimelineValue
cancelled timeline place day = with_edit timeline place (cancel_of day)

abbrev pub cancel_fault : TimelineValue → ℕ → ℕ → Option EditFault
cancel_fault timeline place day = fault_at timeline place (cancel_fault_of day)

abbrev pub uncancelled : TimelineValue → ℕ → TimelineValue
uncancelled timeline place = with_edit timeline place uncancel_of

abbrev pub uncancel_fault : TimelineValue → ℕ → Option EditFault
uncancel_fault timeline place = fault_at timeline place uncancel_fault_of
