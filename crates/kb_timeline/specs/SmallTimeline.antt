-- A subscription that is changed, changed in the past, cancelled and taken back.
use Rattle.std.specs.Prelude.{ℕ, ◌≡◌, true, false, [], ◌∷◌, codes, replicate, Some, None, refl}
use Rattle.kb_days.specs.Dates.{february, march}
use Rattle.kb_timeline.specs.declared.entry.Entry.{Entry}
use Rattle.kb_timeline.specs.declared.subscription.Subscription.{Subscription}
use Rattle.kb_timeline.specs.declared.edit_fault.EditFault.TheVariants.{SubscriptionExists, BeforeStart}
use Rattle.kb_timeline.specs.declared.edit_fault.EditFault.TheVariants.{Cancelled, NotCancelled, Limit}
use Rattle.kb_timeline.specs.declared.edit_fault.Limit.TheVariants.{Subscriptions, Entries}
use Rattle.kb_timeline.specs.EntryDays.{entry_on, with_change}
use Rattle.kb_timeline.specs.TimelineEdits.{TimelineValue, no_subscriptions, subscription_named, lead_of}
use Rattle.kb_timeline.specs.TimelineEdits.{created, create_fault, change_fault, cancelled, cancel_fault}
use Rattle.kb_timeline.specs.TimelineEdits.{uncancelled, uncancel_fault}

-- an entry for a plan of the first version and list, the phases of which are counted from its own day
abbrev of_plan : ℕ → ℕ → Entry
of_plan plan day = record { day = day; plan = record { version = 0; list = 0; plan = plan }; anchor = day }

-- the plan of one place, and that of another
abbrev basic : ℕ → Entry
basic day = of_plan 0 day

abbrev pro : ℕ → Entry
pro day = of_plan 1 day

-- the changes on or after a change's day go, and those before it stay
a_change_in_the_past :
    with_change (basic (march 1) ∷ pro (march 11) ∷ basic (march 21) ∷ []) (basic (march 11))
    ≡ basic (march 1) ∷ basic (march 11) ∷ []
a_change_in_the_past = refl

-- a change on the start's day keeps the start, and governs from that day on
a_change_of_the_start : with_change (basic (march 1) ∷ pro (march 11) ∷ []) (pro (march 1))
    ≡ basic (march 1) ∷ pro (march 1) ∷ []
a_change_of_the_start = refl

governs_before_the_start : entry_on (basic (march 1) ∷ pro (march 1) ∷ []) (march 1) ≡ Some (pro (march 1))
governs_before_the_start = refl

governs_until_the_change : entry_on (basic (march 1) ∷ pro (march 11) ∷ []) (march 10)
    ≡ Some (basic (march 1))
governs_until_the_change = refl

governs_from_its_day_on : entry_on (basic (march 1) ∷ pro (march 11) ∷ []) (march 11) ≡ Some (pro (march 11))
governs_from_its_day_on = refl

none_governs_before_the_start : entry_on (basic (march 1) ∷ []) (february 29) ≡ None
none_governs_before_the_start = refl

-- two subscriptions of one bundle
abbrev s1 : Subscription
s1 = record { name = codes "s1"; bundle = 0; addon = false; entries = basic (march 1) ∷ []; cancel = None }

abbrev s2 : Subscription
s2 = record { name = codes "s2"; bundle = 0; addon = true; entries = pro (march 3) ∷ []; cancel = None }

abbrev one : TimelineValue
one = record { bundles = codes "b1" ∷ []; subscriptions = s1 ∷ [] }

abbrev two : TimelineValue
two = record { bundles = codes "b1" ∷ []; subscriptions = s1 ∷ s2 ∷ [] }

a_first_subscription : created no_subscriptions (codes "b1") (codes "s1") false (basic (march 1)) ≡ one
a_first_subscription = refl

one_of_the_same_bundle : created one (codes "b1") (codes "s2") true (pro (march 3)) ≡ two
one_of_the_same_bundle = refl

a_name_that_is_there : create_fault two (codes "s2") ≡ Some SubscriptionExists
a_name_that_is_there = refl

its_place : subscription_named two (codes "s2") ≡ Some 1
its_place = refl

-- the first subscription of a bundle is its lead
the_lead : lead_of two 0 ≡ Some 0
the_lead = refl

no_lead_of_no_bundle : lead_of two 1 ≡ None
no_lead_of_no_bundle = refl

-- a cancellation stands beside the entries, and refuses changes and cancellations on every day
a_cancellation : cancelled two 1 (march 8)
    ≡ record two { subscriptions = s1 ∷ record s2 { cancel = Some (march 8) } ∷ [] }
a_cancellation = refl

no_change_before_it : change_fault (cancelled two 1 (march 8)) 1 (basic (march 4)) ≡ Some Cancelled
no_change_before_it = refl

no_change_before_the_start : change_fault (cancelled two 1 (march 8)) 1 (basic (march 2)) ≡ Some BeforeStart
no_change_before_the_start = refl

no_second_one : cancel_fault (cancelled two 1 (march 8)) 1 (march 4) ≡ Some Cancelled
no_second_one = refl

taken_back : uncancelled (cancelled two 1 (march 8)) 1 ≡ two
taken_back = refl

nothing_to_take_back : uncancel_fault two 1 ≡ Some NotCancelled
nothing_to_take_back = refl

-- 128 subscriptions, and 1,024 entries; the definitions don't ask whether names differ and days rise
abbrev full : TimelineValue
full = record { bundles = codes "b1" ∷ []; subscriptions = replicate 128 s1 }

abbrev long : TimelineValue
long = record two { subscriptions = record s1 { entries = replicate 1024 (basic (march 1)) } ∷ [] }

no_129th_subscription : create_fault full (codes "s2") ≡ Some (Limit Subscriptions)
no_129th_subscription = refl

the_name_before_the_limit : create_fault full (codes "s1") ≡ Some SubscriptionExists
the_name_before_the_limit = refl

no_1025th_entry : change_fault long 0 (pro (march 2)) ≡ Some (Limit Entries)
no_1025th_entry = refl

a_change_of_them_all : change_fault long 0 (pro (march 1)) ≡ None
a_change_of_them_all = refl
