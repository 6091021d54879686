-- The cycle day by which a day is billed.
use Rattle.std.specs.Prelude.{ℕ, List, is_some, find, slice_get, Option, Some, None, unwrap_or, option_map}
use Rattle.std.specs.Prelude.{option_and_then}
use Rattle.std.specs.List.{zip}
use Rattle.kb_days.specs.Calendar.{day_of_month}
use Rattle.kb_catalog.specs.declared.plan.Plan.{Plan}
use Rattle.kb_catalog.specs.declared.phase.Phase.{Phase}
use Rattle.kb_catalog.specs.declared.product.Product.{Product}
use Rattle.kb_catalog.specs.declared.rules.PlanCase.{PlanCase}
use Rattle.kb_catalog.specs.declared.words.BillingAlign.{BillingAlign}
use Rattle.kb_catalog.specs.declared.words.BillingAlign.TheVariants.{Account, Bundle, Subscription as Own}
use Rattle.kb_catalog.specs.declared.ask.PlanAsk.{PlanAsk}
use Rattle.kb_catalog.specs.Cases.{first_match, fits_plan}
use Rattle.kb_catalog.specs.VersionProducts.{product_named}
use Rattle.kb_catalog.specs.Plans.{plan_period, price_in}
use Rattle.kb_align.specs.Phases.{phase_starts}
use Rattle.kb_timeline.specs.declared.entry.Entry.{Entry}
use Rattle.kb_timeline.specs.declared.subscription.Subscription.{Subscription}
use Rattle.kb_due.specs.Facts.{FactsValue}
use Rattle.kb_due.specs.Governing.{Choice, choice_of, spans_of, Governing}
use Rattle.kb_due.specs.Life.{lead_subscription}

-- a plan and a phase of it, as the rules of its version look at them
abbrev pub ask_of : Choice → Phase → PlanAsk
ask_of choice phase = record {
  product = choice.plan.product;
  category = option_map (λ (product : Product). product.category)
      (product_named choice.version choice.plan.product);
  period = plan_period choice.plan;
  list = choice.list.name;
  phase = Some phase.kind;
}

-- whose cycle day is used, by the rules of the plan's version
abbrev pub billing_align : Choice → Phase → Option BillingAlign
billing_align choice phase =
    first_match (fits_plan (ask_of choice phase)) (λ (case : PlanCase BillingAlign). case.answer)
    choice.version.rules.billing_alignment

-- of some phases with their starts, the start of the first one with a recurring price, where there is one and
-- it is reached
abbrev pub first_billed : List ℕ → List (Option ℕ × Phase) → Option ℕ
first_billed currency phases =
    option_and_then (λ (begun : Option ℕ × Phase). begun.0)
    (find (λ (begun : Option ℕ × Phase). is_some (price_in currency begun.1.recurring)) phases)

-- that of a plan's phases, counted from an anchor
abbrev pub first_billed_start : List ℕ → ℕ → Plan → Option ℕ
first_billed_start currency anchor plan =
    first_billed currency (zip (phase_starts anchor (spans_of plan)) plan.phases)

-- a subscription's own cycle day: the day of the month on which the first phase with a recurring price
-- starts, by the plan and anchor of its start; where there is none, that of its start
abbrev pub own_cycle_day : FactsValue → Subscription → ℕ
own_cycle_day facts subscription = of_start (slice_get subscription.entries 0)
  where
    of_start : Option Entry → ℕ
    of_start None = facts.bcd
    of_start (Some start) =
        day_of_month (unwrap_or (option_and_then billed_start (choice_of facts.catalog start.plan)) start.day)
      where
        billed_start : Choice → Option ℕ
        billed_start choice = first_billed_start facts.currency start.anchor choice.plan

-- the cycle day by which a day of a subscription is billed: the account's, its lead's or its own
abbrev pub cycle_day : FactsValue → Subscription → Governing → ℕ
cycle_day facts subscription governing = by (billing_align governing.choice governing.phase)
  where
    by : Option BillingAlign → ℕ
    by None = facts.bcd
    by (Some Account) = facts.bcd
    by (Some Bundle) = own_cycle_day facts (unwrap_or (lead_subscription facts subscription) subscription)
    by (Some Own) = own_cycle_day facts subscription
