-- What is asked for, and what the catalog has of it on a day.
use Rattle.std.specs.Prelude.{ℕ, ◌≡◌, List, Option, Some, None, unwrap_or, option_map, option_and_then}
use Rattle.std.specs.Prelude.{slice_get, refl}
use Rattle.kb_days.specs.Dates.{march}
use Rattle.kb_catalog.specs.declared.version.Version.{Version}
use Rattle.kb_catalog.specs.declared.product.Product.{Product}
use Rattle.kb_catalog.specs.declared.words.Category.{Category}
use Rattle.kb_catalog.specs.declared.ask.PlanAsk.{PlanAsk}
use Rattle.kb_catalog.specs.VersionProducts.{product_named}
use Rattle.kb_catalog.specs.Catalogs.{version_at}
use Rattle.kb_catalog.specs.LookUp.{plan_at}
use Rattle.kb_timeline.specs.declared.entry.PlanRef.{PlanRef}
use Rattle.kb_timeline.specs.declared.subscription.Subscription.{Subscription}
use Rattle.kb_due.specs.Facts.{FactsValue, subscription_at}
use Rattle.kb_due.specs.Governing.{Governing, governing_on}
use Rattle.kb_due.specs.CycleDays.{ask_of}
use Rattle.kb_book.specs.declared.wish.Wish.{Wish}

-- the day asked for: the one that is named, or else today
abbrev pub asked_day : Option ℕ → ℕ → ℕ
asked_day day today = unwrap_or day today

day_named : asked_day (Some (march 20)) (march 25) ≡ march 20
day_named = refl

no_day_named : asked_day None (march 25) ≡ march 25
no_day_named = refl

-- the version of a day: the last one effective by then
abbrev pub version_of : List Version → ℕ → Option Version
version_of versions day = option_and_then (slice_get versions) (version_at versions day)

-- the plan of a wish in a version, if it sells one: its place, and that of its list
abbrev pub plan_in : Wish → Version → Option (ℕ × ℕ)
plan_in wish version = plan_at version wish.product wish.period wish.list

-- the plan of a wish, by the version of a day: its place
abbrev pub plan_asked : List Version → ℕ → Wish → Option PlanRef
plan_asked versions day wish = option_and_then in_place (version_at versions day)
  where
    in_place : ℕ → Option PlanRef
    in_place place =
        option_map (λ (at : ℕ × ℕ). record { version = place; list = at.0; plan = at.1 })
        (option_and_then (plan_in wish) (slice_get versions place))

-- the category of a product in a version, if the version has it
abbrev pub category_in : Version → List ℕ → Option Category
category_in version product =
    option_map (λ (found : Product). found.category) (product_named version product)

-- the same in the version of a day
abbrev pub category_on : List Version → ℕ → List ℕ → Option Category
category_on versions day product =
    option_and_then (λ version. category_in version product) (version_of versions day)

-- a wish, as the rules of a version look at it
abbrev pub wish_ask : Version → Wish → PlanAsk
wish_ask version wish = record {
  product = wish.product;
  category = category_in version wish.product;
  period = wish.period;
  list = wish.list;
  phase = None;
}

-- what governs, as the rules of a version look at it
abbrev pub governing_ask : Governing → PlanAsk
governing_ask governing = ask_of governing.choice governing.phase

-- what governs a day of the subscription at a place
abbrev pub governing_of : FactsValue → ℕ → ℕ → Option Governing
governing_of facts sub day =
    option_and_then (λ (subscription : Subscription). governing_on facts.catalog subscription.entries day)
    (subscription_at facts sub)
