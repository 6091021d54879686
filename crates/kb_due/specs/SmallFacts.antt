-- Two subscriptions of one bundle in March 2024, of which the second is an add-on.
use Rattle.std.specs.Prelude.{ℕ, ◌≡◌, true, false, [], ◌∷◌, List, codes, Some, None, refl}
use Rattle.kb_days.specs.Calendar.{end_of_days, month_of, month_after, month_start, month_length}
use Rattle.kb_days.specs.Calendar.{day_of_month}
use Rattle.kb_days.specs.Dates.{february, march, april}
use Rattle.kb_days.specs.declared.span.Span.TheVariants.{Days, Unlimited}
use Rattle.kb_days.specs.declared.period.Period.TheVariants.{Monthly, NoBillingPeriod}
use Rattle.kb_catalog.specs.declared.version.Version.{Version}
use Rattle.kb_catalog.specs.declared.product.Product.{Product}
use Rattle.kb_catalog.specs.declared.plan.Plan.{Plan}
use Rattle.kb_catalog.specs.declared.phase.Phase.{Phase}
use Rattle.kb_catalog.specs.declared.words.Category.TheVariants.{Base, AddOn}
use Rattle.kb_catalog.specs.declared.words.PhaseType.TheVariants.{Trial, Evergreen}
use Rattle.kb_catalog.specs.SmallVersion.{small}
use Rattle.kb_align.specs.Phases.{phase_on, phase_starts}
use Rattle.kb_align.specs.PeriodDays.{period_on, last_day_on, next_day_after, is_boundary, first_month}
use Rattle.kb_timeline.specs.declared.entry.Entry.{Entry}
use Rattle.kb_timeline.specs.declared.subscription.Subscription.{Subscription}
use Rattle.kb_blocking.specs.declared.state.Scope.TheVariants.{Account}
use Rattle.kb_blocking.specs.Blocking.{is_on}
use Rattle.kb_due.specs.declared.cell.Cell.{Cell}
use Rattle.kb_due.specs.declared.entitlement.Entitlement.TheVariants.{Pending, Active, Blocked, Cancelled}
use Rattle.kb_due.specs.Facts.{FactsValue}
use Rattle.kb_due.specs.Life.{is_kept, is_live}
use Rattle.kb_due.specs.CycleDays.{own_cycle_day}
use Rattle.kb_due.specs.Cells.{cell_on}
use Rattle.kb_due.specs.DueDays.{due_on, due_at, charged_until, fee_on, fee_at}
use Rattle.kb_due.specs.Entitlements.{state_of, state_on}

-- Basic is offered with Extra and More, Gold with Extra alone
abbrev products : List Product
products =
    record {
      name = codes "Basic";
      category = Base;
      available = codes "Extra" ∷ codes "More" ∷ [];
      included = [];
    }
    ∷ record { name = codes "Gold"; category = Base; available = codes "Extra" ∷ []; included = [] }
    ∷ record { name = codes "Extra"; category = AddOn; available = []; included = [] }
    ∷ record { name = codes "More"; category = AddOn; available = []; included = [] }
    ∷ []

-- 1000 a month without end
abbrev monthly : Phase
monthly = record {
  kind = Evergreen;
  span = Unlimited;
  fixed = [];
  period = Monthly;
  recurring = record { currency = codes "USD"; amount = 1000 } ∷ [];
}

-- 30 days at 500 in all
abbrev trial : Phase
trial = record {
  kind = Trial;
  span = Days 30;
  fixed = record { currency = codes "USD"; amount = 500 } ∷ [];
  period = NoBillingPeriod;
  recurring = [];
}

abbrev plan : List ℕ → List Phase → Plan
plan product phases = record { name = product; product = product; phases = phases }

-- a plan of each product, of which Basic begins with the trial
abbrev version : Version
version = record small {
  products = products;
  plans = plan (codes "Basic") (trial ∷ monthly ∷ []) ∷ plan (codes "Gold") (monthly ∷ [])
      ∷ plan (codes "Extra") (monthly ∷ []) ∷ plan (codes "More") (monthly ∷ []) ∷ [];
}

-- the plan at a place on a day, its phases counted from an anchor
abbrev entry : ℕ → ℕ → ℕ → Entry
entry place day anchor = record {
  day = day;
  plan = record { version = 0; list = 0; plan = place };
  anchor = anchor;
}

-- Basic from 1 March, Gold from 11 March on
abbrev lead : Subscription
lead = record {
  name = codes "s1";
  bundle = 0;
  addon = false;
  entries = entry 0 (march 1) (march 1) ∷ entry 1
      (march 11) (march 1) ∷ [];
  cancel = None;
}

-- Extra from 1 March, More from 21 March on
abbrev addon : Subscription
addon = record {
  name = codes "s2";
  bundle = 0;
  addon = true;
  entries = entry 2 (march 1) (march 1) ∷ entry 3
      (march 21) (march 1) ∷ [];
  cancel = None;
}

abbrev pub facts : FactsValue
facts = record {
  catalog = version ∷ [];
  timeline = record { bundles = codes "b1" ∷ []; subscriptions = lead ∷ addon ∷ [] };
  blocks = [];
  currency = codes "USD";
  bcd = 1;
}

live_from_its_start : is_live facts 0 (march 1) ≡ true
live_from_its_start = refl

not_before_it : is_live facts 0 (february 29) ≡ false
not_before_it = refl

-- Gold offers Extra and doesn't offer More
add_on_that_is_offered : is_live facts 1 (march 20) ≡ true
unfolding is_kept
add_on_that_is_offered = refl

add_on_that_is_offered_no_more : is_live facts 1 (march 21) ≡ false
unfolding is_kept
add_on_that_is_offered_no_more = refl

-- the trial isn't charged by periods
no_cell_in_the_trial : cell_on facts lead 0 (march 3) ≡ None
unfolding cell_on is_on phase_on phase_starts
no_cell_in_the_trial = refl

-- the lead's own cycle day: the first phase with a recurring price starts on 31 March, whatever it changed to
-- before
own_day_of_the_lead : own_cycle_day facts lead ≡ 31
unfolding phase_starts day_of_month month_of month_after month_start month_length
own_day_of_the_lead = refl

-- from 11 March on each day is charged by its month
abbrev pub gold_in_march : Cell
gold_in_march = record {
  plan = record { version = 0; list = 0; plan = 1 };
  phase = 0;
  start = march 1;
  end = april 1;
  price = 1000;
}

cell_of_12_march : cell_on facts lead 0 (march 12) ≡ Some gold_in_march
unfolding cell_on is_on phase_on phase_starts period_on last_day_on next_day_after is_boundary first_month
    month_of month_after month_start month_length
cell_of_12_march = refl

-- none has a cell from the end of days on
none_from_the_end_of_days : cell_on facts lead 0 end_of_days ≡ None
unfolding cell_on
none_from_the_end_of_days = refl

-- the cell of 12 March is due once the change is dated on or before the billed date
due_at_the_change : due_on facts 0 (march 11) (march 12) ≡ Some gold_in_march
unfolding due_on cell_on is_on phase_on phase_starts period_on last_day_on next_day_after is_boundary
    first_month month_of month_after month_start month_length
due_at_the_change = refl

not_due_before_it : due_on facts 0 (march 10) (march 12) ≡ None
unfolding due_on cell_on is_on phase_on phase_starts period_on last_day_on next_day_after is_boundary
    first_month month_of month_after month_start month_length
not_due_before_it = refl

-- where there is no billed date yet nothing is due
not_due_without_a_billed_date : due_at facts 0 None (march 12) ≡ None
not_due_without_a_billed_date = refl

-- at the change all days of March from then on are due, and none in April
charged_to_the_end_of_march : charged_until (april 3) facts 0 (march 11) ≡ Some (april 1)
unfolding charged_until due_on cell_on is_on phase_on phase_starts period_on last_day_on next_day_after
    is_boundary first_month month_of month_after month_start month_length
charged_to_the_end_of_march = refl

-- the trial is charged once, on the day on which it starts
fee_of_1_march : fee_on facts 0 (march 1) (march 1)
    ≡ Some (record {
      plan = record { version = 0; list = 0; plan = 0 };
      phase = 0;
      start = march 1;
      end = march 2;
      price = 500;
    })
unfolding fee_on phase_on phase_starts
fee_of_1_march = refl

no_fee_without_a_billed_date : fee_at facts 0 None (march 1) ≡ None
no_fee_without_a_billed_date = refl

no_fee_on_the_next_day : fee_on facts 0 (march 1) (march 2) ≡ None
unfolding fee_on phase_on phase_starts
no_fee_on_the_next_day = refl

-- the account is blocked for use, and not for billing, from 15 March on
abbrev frozen : FactsValue
frozen = record facts {
  blocks = record {
    scope = Account;
    service = codes "fraud";
    state = codes "HOLD";
    day = march 15;
    flags = record { change = false; entitlement = true; billing = false };
  } ∷ [];
}

pending_before_the_start : state_on frozen 0 (february 29) ≡ Some Pending
unfolding state_of
pending_before_the_start = refl

active_on_14_march : state_on frozen 0 (march 14) ≡ Some Active
unfolding state_of is_on
active_on_14_march = refl

blocked_on_15_march : state_on frozen 0 (march 15) ≡ Some Blocked
unfolding state_of is_on
blocked_on_15_march = refl

cancelled_once_it_is_offered_no_more : state_on frozen 1 (march 21) ≡ Some Cancelled
unfolding state_of is_kept
cancelled_once_it_is_offered_no_more = refl
