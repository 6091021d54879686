-- What the rules of bundles allow: who leads a bundle, who joins it, and what a change may not do.
use Rattle.std.specs.Prelude.{ℕ, Bool, true, false, not, ◌&&◌, ◌||◌, List, Option, Some, None, is_some}
use Rattle.std.specs.Prelude.{option_and_then}
use Rattle.kb_catalog.specs.declared.words.Category.{Category}
use Rattle.kb_catalog.specs.Words.{same_category}
use Rattle.kb_catalog.specs.Products.{is_base, is_add_on, has_name}
use Rattle.kb_timeline.specs.declared.subscription.Subscription.{Subscription}
use Rattle.kb_due.specs.Facts.{FactsValue}
use Rattle.kb_due.specs.Governing.{Choice, Governing}
use Rattle.kb_due.specs.Life.{is_live_of, choice_on, available_with}
use Rattle.kb_book.specs.Wishes.{category_in, category_on, governing_ask, governing_of}
use Rattle.kb_book.specs.Anchors.{bundle_lead}

-- a product may lead a bundle
abbrev pub may_lead : Option Category → Bool
may_lead None = false
may_lead (Some category) = not (is_add_on category)

-- a product is an add-on
abbrev pub is_addon : Option Category → Bool
is_addon None = false
is_addon (Some category) = is_add_on category

-- a product is a base product
abbrev pub is_base_product : Option Category → Bool
is_base_product None = false
is_base_product (Some category) = is_base category

-- what a lead chose for a day is a base product that lists this one as available
abbrev pub offers : List ℕ → Choice → Bool
offers product choice =
    is_base_product (category_in choice.version choice.plan.product)
    && has_name (available_with choice) product

-- the same, where something was chosen
abbrev pub is_chosen_with : List ℕ → Option Choice → Bool
is_chosen_with product None = false
is_chosen_with product (Some choice) = offers product choice

-- a bundle's lead is live on a day, and offers a product
abbrev pub is_offered_by : FactsValue → List ℕ → ℕ → Option Subscription → Bool
is_offered_by facts product day None = false
is_offered_by facts product day (Some lead) =
    is_live_of facts lead day && is_chosen_with product (choice_on facts.catalog lead.entries day)

-- a subscription of a product may start in a bundle on a day: as its lead if the bundle isn't there yet, and
-- else as an add-on that its lead offers
abbrev pub may_join : FactsValue → Option ℕ → List ℕ → ℕ → Bool
may_join facts None product day = may_lead (category_on facts.catalog day product)
may_join facts (Some bundle) product day =
    is_addon (category_on facts.catalog day product)
    && is_offered_by facts product day (bundle_lead facts (Some bundle))

-- two categories, where both are known, differ; one that isn't known differs from all
abbrev pub differ : Option Category → Option Category → Bool
differ None new = true
differ (Some old) None = true
differ (Some old) (Some new) = not (same_category old new)

-- the category of the product that governs a day of the subscription at a place
abbrev pub governing_category : FactsValue → ℕ → ℕ → Option Category
governing_category facts sub day =
    option_and_then (λ (governing : Governing). (governing_ask governing).category)
    (governing_of facts sub day)

-- a change that is asked for on one day, and takes effect on another, alters the category
abbrev pub alters_category : FactsValue → ℕ → ℕ → ℕ → List ℕ → Bool
alters_category facts sub day effect product =
    differ (governing_category facts sub day) (category_on facts.catalog effect product)

-- a change breaks the rules of bundles: it alters the category, or takes an add-on to a product that its lead
-- doesn't offer on the day of effect
abbrev pub breaks_bundle : FactsValue → ℕ → Subscription → ℕ → ℕ → List ℕ → Bool
breaks_bundle facts sub subscription day effect product =
    alters_category facts sub day effect product
    || (subscription.addon
    && not (is_offered_by facts product effect (bundle_lead facts (Some subscription.bundle))))

-- a subscription is cancelled on whichever day, or isn't live on this one
abbrev pub is_over : FactsValue → Subscription → ℕ → Bool
is_over facts subscription day = is_some subscription.cancel || not (is_live_of facts subscription day)
