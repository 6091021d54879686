-- From which day the phases of a plan are counted.
use Rattle.std.specs.Prelude.{ℕ, ◌≡◌, Option, Some, None, unwrap_or, option_map, option_and_then, slice_get}
use Rattle.std.specs.Prelude.{refl}
use Rattle.kb_days.specs.Dates.{march}
use Rattle.kb_catalog.specs.declared.version.Version.{Version}
use Rattle.kb_catalog.specs.declared.rules.ChangeCase.{ChangeCase}
use Rattle.kb_catalog.specs.declared.rules.CreateCase.{CreateCase}
use Rattle.kb_catalog.specs.declared.words.Align.{Align}
use Rattle.kb_catalog.specs.declared.words.Align.TheVariants.{StartOfBundle, StartOfSubscription}
use Rattle.kb_catalog.specs.declared.words.Align.TheVariants.{ChangeOfPlan}
use Rattle.kb_catalog.specs.declared.words.CreateAlign.{CreateAlign}
use Rattle.kb_catalog.specs.Alignments.{align_of}
use Rattle.kb_catalog.specs.Cases.{first_match, fits_change, fits_create}
use Rattle.kb_timeline.specs.declared.entry.Entry.{Entry}
use Rattle.kb_timeline.specs.declared.subscription.Subscription.{Subscription}
use Rattle.kb_timeline.specs.TimelineEdits.{lead_of}
use Rattle.kb_due.specs.Facts.{FactsValue, subscription_at}
use Rattle.kb_due.specs.Governing.{Governing}
use Rattle.kb_book.specs.declared.wish.Wish.{Wish}
use Rattle.kb_book.specs.Wishes.{version_of, wish_ask, governing_of}
use Rattle.kb_book.specs.Effects.{change_ask}

-- the day on which a subscription starts
abbrev pub start_of : Subscription → Option ℕ
start_of subscription = option_map (λ (entry : Entry). entry.day) (slice_get subscription.entries 0)

-- the lead of a bundle, if the bundle is there
abbrev pub bundle_lead : FactsValue → Option ℕ → Option Subscription
bundle_lead facts bundle =
    option_and_then (subscription_at facts) (option_and_then (lead_of facts.timeline) bundle)

-- from which day phases are counted: the start of the bundle's lead, that of the subscription, or the day of
-- effect
abbrev pub anchor_by : Align → Option Subscription → ℕ → ℕ → ℕ
anchor_by StartOfBundle lead start effect = unwrap_or (option_and_then start_of lead) start
anchor_by StartOfSubscription lead start effect = start
anchor_by ChangeOfPlan lead start effect = effect

from_the_change : anchor_by ChangeOfPlan None (march 1) (march 20) ≡ march 20
from_the_change = refl

of_a_new_bundle : anchor_by StartOfBundle None (march 1) (march 1) ≡ march 1
of_a_new_bundle = refl

-- the anchor of a start on a day, in a bundle that may not be there yet
abbrev pub create_anchor : FactsValue → Option ℕ → ℕ → Wish → Option ℕ
create_anchor facts bundle day wish = option_and_then by_version (version_of facts.catalog day)
  where
    anchor_of : CreateAlign → ℕ
    anchor_of align = anchor_by (align_of align) (bundle_lead facts bundle) day day

    by_version : Version → Option ℕ
    by_version version =
        option_map anchor_of
        (first_match (fits_create (wish_ask version wish)) (λ (case : CreateCase). case.alignment)
        version.rules.create_alignment)

-- the anchor of a change of the subscription at a place, that is asked for on one day and takes effect on
-- another
abbrev pub change_anchor : FactsValue → ℕ → ℕ → ℕ → Wish → Option ℕ
change_anchor facts sub day effect wish = option_and_then by_version (version_of facts.catalog effect)
  where
    anchor_of : Align → Subscription → ℕ
    anchor_of align subscription =
        anchor_by align (bundle_lead facts (Some subscription.bundle))
        (unwrap_or (start_of subscription) effect) effect

    by_governing : Version → Governing → Option Align
    by_governing version governing =
        first_match (fits_change (change_ask version governing wish))
        (λ (case : ChangeCase Align). case.answer) version.rules.change_alignment

    by_version : Version → Option ℕ
    by_version version = option_and_then
        (λ align. option_map (anchor_of align) (subscription_at facts sub))
        (option_and_then (by_governing version) (governing_of facts sub day))
