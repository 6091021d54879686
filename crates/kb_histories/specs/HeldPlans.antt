-- Catalogs that have the plans of a timeline.
use Rattle.std.specs.Prelude.{ℕ, ◌≡◌, List, ◌++◌, All, IsSome, is_some, true, false, refl}
use Rattle.kb_catalog.specs.declared.version.Version.{Version}
use Rattle.kb_timeline.specs.declared.entry.Entry.{Entry}
use Rattle.kb_timeline.specs.declared.entry.PlanRef.{PlanRef}
use Rattle.kb_timeline.specs.declared.subscription.Subscription.{Subscription}
use Rattle.kb_timeline.specs.TimelineEdits.{TimelineValue}
use Rattle.kb_due.specs.Governing.{choice_of}
use Rattle.kb_due.specs.SmallFacts.{facts}

-- a catalog has the plan that an entry refers to, in the version that it names, and the list by which it was
-- chosen
abbrev pub HasPlanOf : List Version → Entry → Type 0
HasPlanOf catalog entry = IsSome (choice_of catalog entry.plan)

-- it has those of all entries of a subscription
abbrev pub HasEachOf : List Version → Subscription → Type 0
HasEachOf catalog subscription = All (HasPlanOf catalog) subscription.entries

-- and of all subscriptions of a timeline
abbrev pub HasPlansOf : List Version → TimelineValue → Type 0
HasPlansOf catalog timeline = All (HasEachOf catalog) timeline.subscriptions

-- the second plan of a version, and of one that may come behind it
abbrev gold : ℕ → PlanRef
gold version = record { version = version; list = 0; plan = 1 }

has_gold : is_some (choice_of facts.catalog (gold 0)) ≡ true
has_gold = refl

has_none_of_a_second_version : is_some (choice_of facts.catalog (gold 1)) ≡ false
has_none_of_a_second_version = refl

has_it_once_it_comes : is_some (choice_of (facts.catalog ++ facts.catalog) (gold 1)) ≡ true
has_it_once_it_comes = refl
