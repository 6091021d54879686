-- What is due on a day is the same with later versions of a catalog.
use Rattle.std.proofs.Common.{◌≡◌, ℕ, Bool, not, ◌&&◌, ◌||◌, nat_le, List, slice_get, Option, Some, None}
use Rattle.std.proofs.Common.{unwrap_or, option_map, option_and_then, if◌then◌else◌, refl, ap, ◌∙◌}
use Rattle.std.proofs.Math.Path.{fun_ext}
use Rattle.kb_days.specs.Calendar.{day_of_month, last_charged}
use Rattle.kb_catalog.specs.declared.version.Version.{Version}
use Rattle.kb_catalog.specs.declared.words.BillingAlign.{BillingAlign}
use Rattle.kb_catalog.specs.declared.words.BillingAlign.TheVariants.{Account, Bundle, Subscription as Own}
use Rattle.kb_catalog.specs.Plans.{is_no_period, price_in}
use Rattle.kb_align.specs.PeriodDays.{period_on}
use Rattle.kb_timeline.specs.declared.entry.Entry.{Entry}
use Rattle.kb_timeline.specs.declared.subscription.Subscription.{Subscription}
use Rattle.kb_timeline.specs.TimelineEdits.{lead_of}
use Rattle.kb_due.specs.declared.cell.Cell.{Cell}
use Rattle.kb_due.specs.Facts.{FactsValue, subscription_at}
use Rattle.kb_due.specs.Governing.{Choice, Governing, governing_on}
use Rattle.kb_due.specs.Life.{is_running, lead_subscription, is_live_of}
use Rattle.kb_due.specs.CycleDays.{billing_align, first_billed_start, own_cycle_day, cycle_day}
use Rattle.kb_due.specs.Cells.{is_unbilled, cell_of, cell_by, cell_on}
use Rattle.kb_due.specs.DueDays.{event_by, due_by, due_of, due_on, fee_by, fee_of, fee_on}
use Rattle.kb_histories.specs.HeldPlans.{HasPlanOf, HasEachOf, HasPlansOf}
use Rattle.kb_histories.specs.LaterVersions.{with_later, DuesStay, FeesStay}
use Rattle.kb_histories.proofs.Members.{All-at}
use Rattle.kb_histories.proofs.LaterChoices.{option_and_then-agrees, choice_of-later, governing_on-later}
use Rattle.kb_histories.proofs.LaterChoices.{is_kept_by-later}

module _ (facts : FactsValue) (later : List Version) (held : HasPlansOf facts.catalog facts.timeline) where
  abbrev more : FactsValue
  more = with_later facts later

  -- the catalog has the plans of the subscription at a place
  subscription-held : (place : ℕ) (subscription : Subscription)
      → subscription_at facts place ≡ Some subscription → HasEachOf facts.catalog subscription
  subscription-held place subscription is =
      All-at (HasEachOf facts.catalog) facts.timeline.subscriptions place subscription held is

  -- and of a lead
  lead-held : (place : Option ℕ) (lead : Subscription)
      → option_and_then (subscription_at facts) place ≡ Some lead → HasEachOf facts.catalog lead
  lead-held None lead is = absurd (cc)
  lead-held (Some place) lead is = subscription-held place lead is

  module _ (subscription : Subscription) (own : HasEachOf facts.catalog subscription) where
    -- whether it is live
    is_live_of-later : (day : ℕ) → is_live_of more subscription day ≡ is_live_of facts subscription day
    is_live_of-later day =
        ap (λ (kept : Bool). is_running subscription day && (not subscription.addon || kept))
        (is_kept_by-later facts.catalog later (lead_subscription facts subscription) subscription day
        (lead-held (lead_of facts.timeline subscription.bundle)) own)

    -- its own cycle day
    own_cycle_day-later : own_cycle_day more subscription ≡ own_cycle_day facts subscription
    own_cycle_day-later = by_start (slice_get subscription.entries 0) refl
      where
        by_start : (found : Option Entry) → slice_get subscription.entries 0 ≡ found
            → own_cycle_day more subscription ≡ own_cycle_day facts subscription
        by_start None is = rw is refl
        by_start (Some start) is =
            rw is (ap (λ (chosen : Option Choice). day_of_month (unwrap_or
            (option_and_then
            (λ (choice : Choice). first_billed_start facts.currency start.anchor choice.plan) chosen)
            start.day))
            (choice_of-later facts.catalog later start.plan
            (All-at (HasPlanOf facts.catalog) subscription.entries 0 start own is)))

  own_or_lead : (lead : Option Subscription) (subscription : Subscription)
      → ((one : Subscription) → lead ≡ Some one → HasEachOf facts.catalog one)
      → HasEachOf facts.catalog subscription → HasEachOf facts.catalog (unwrap_or lead subscription)
  own_or_lead None subscription led own = own
  own_or_lead (Some lead) subscription led own = led lead refl

  module _ (subscription : Subscription) (own : HasEachOf facts.catalog subscription) where
    -- the cycle day of what governs
    cycle_day-later : (governing : Governing)
        → cycle_day more subscription governing ≡ cycle_day facts subscription governing
    cycle_day-later governing = by_align (billing_align governing.choice governing.phase) refl
      where
        by_align : (align : Option BillingAlign) → billing_align governing.choice governing.phase ≡ align
            → cycle_day more subscription governing ≡ cycle_day facts subscription governing
        by_align None is = rw is refl
        by_align (Some Account) is = rw is refl
        by_align (Some Bundle) is =
            rw is (own_cycle_day-later (unwrap_or (lead_subscription facts subscription) subscription)
            (own_or_lead (lead_subscription facts subscription) subscription
            (lead-held (lead_of facts.timeline subscription.bundle)) own))
        by_align (Some Own) is = rw is (own_cycle_day-later subscription own)

    -- the cell by it
    cell_by-later : (day : ℕ) (governing : Governing)
        → cell_by more subscription day governing ≡ cell_by facts subscription day governing
    cell_by-later day governing =
        ap (λ (bcd : ℕ). if is_no_period governing.phase.period then None
        else option_map (cell_of governing (period_on governing.start governing.phase.period bcd day))
        (price_in facts.currency governing.phase.recurring)) (cycle_day-later governing)

    -- the cell of a day
    cell_on-later : (sub day : ℕ) → cell_on more subscription sub day ≡ cell_on facts subscription sub day
    unfolding cell_on
    cell_on-later sub day =
        ap (λ (live : Bool). if nat_le day last_charged && live
        && not (is_unbilled facts subscription sub day)
        then option_and_then (cell_by more subscription day)
        (governing_on more.catalog subscription.entries day)
        else None) (is_live_of-later subscription own day)
        ∙ ap (λ (cell : Option Cell). if nat_le day last_charged && is_live_of facts subscription day
        && not (is_unbilled facts subscription sub day) then cell else None)
        (ap (option_and_then (cell_by more subscription day))
        (governing_on-later facts.catalog later subscription.entries day own)
        ∙ ap (λ (by : Governing → Option Cell). option_and_then by
        (governing_on facts.catalog subscription.entries day)) (fun_ext (cell_by-later day)))

    -- its due cell
    due_of-later : (sub billed day : ℕ)
        → due_of more subscription sub billed day ≡ due_of facts subscription sub billed day
    due_of-later sub billed day =
        ap (λ (cell : Option Cell). option_and_then
        (λ (governing : Governing). option_and_then
        (due_by billed (event_by facts subscription sub governing day)) cell)
        (governing_on more.catalog subscription.entries day)) (cell_on-later sub day)
        ∙ ap (option_and_then (λ (governing : Governing). option_and_then
        (due_by billed (event_by facts subscription sub governing day)) (cell_on facts subscription sub day)))
        (governing_on-later facts.catalog later subscription.entries day own)

    -- and its fee cell
    fee_of-later : (billed day : ℕ)
        → fee_of more subscription billed day ≡ fee_of facts subscription billed day
    fee_of-later billed day =
        ap (λ (live : Bool). if nat_le day last_charged && live && nat_le day billed
        then option_and_then (fee_by facts day) (governing_on more.catalog subscription.entries day)
        else None) (is_live_of-later subscription own day)
        ∙ ap (λ (governing : Option Governing). if nat_le day last_charged
        && is_live_of facts subscription day && nat_le day billed
        then option_and_then (fee_by facts day) governing else None)
        (governing_on-later facts.catalog later subscription.entries day own)

  due_on-later : (sub billed day : ℕ) → due_on more sub billed day ≡ due_on facts sub billed day
  unfolding due_on
  due_on-later sub billed day =
      option_and_then-agrees (λ (subscription : Subscription). due_of more subscription sub billed day)
      (λ (subscription : Subscription). due_of facts subscription sub billed day) (subscription_at facts sub)
      (λ subscription is. due_of-later subscription (subscription-held sub subscription is) sub billed day)

  fee_on-later : (sub billed day : ℕ) → fee_on more sub billed day ≡ fee_on facts sub billed day
  unfolding fee_on
  fee_on-later sub billed day =
      option_and_then-agrees (λ (subscription : Subscription). fee_of more subscription billed day)
      (λ (subscription : Subscription). fee_of facts subscription billed day) (subscription_at facts sub)
      (λ subscription is. fee_of-later subscription (subscription-held sub subscription is) billed day)

pub dues_stay : DuesStay
dues_stay facts later sub None day held = refl
dues_stay facts later sub (Some date) day held = due_on-later facts later held sub date day

pub fees_stay : FeesStay
fees_stay facts later sub None day held = refl
fees_stay facts later sub (Some date) day held = fee_on-later facts later held sub date day
