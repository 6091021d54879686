-- Due cells and fee cells by their definitions: each has its day, and there is none from the end of days on.
use Rattle.std.proofs.Common.{◌≡◌, ℕ, zero, suc, ◌+◌, ◌<◌, ◌≤◌, Bool, true, false, nat_le, ◌&&◌}
use Rattle.std.proofs.Common.{if◌then◌else◌}
use Rattle.std.proofs.Common.{Option, Some, None, option_map, option_and_then, refl, subst, arith}
use Rattle.std.proofs.lemmas.Bool.{cond_both, lt-leb}
use Rattle.std.proofs.lemmas.Option.{none-some, option_and_then_some}
use Rattle.kb_days.specs.Calendar.{last_charged, end_of_days}
use Rattle.kb_days.specs.declared.period.Period.{Period}
use Rattle.kb_catalog.specs.Plans.{is_no_period, price_in}
use Rattle.kb_align.specs.PeriodDays.{is_boundary, last_day_on, next_day_after, period_on}
use Rattle.kb_timeline.specs.declared.subscription.Subscription.{Subscription}
use Rattle.kb_due.specs.declared.cell.Cell.{Cell}
use Rattle.kb_due.specs.Facts.{FactsValue, subscription_at}
use Rattle.kb_due.specs.Governing.{Governing, governing_on}
use Rattle.kb_due.specs.CycleDays.{cycle_day}
use Rattle.kb_due.specs.Cells.{cell_of, cell_by, cell_on}
use Rattle.kb_due.specs.DueDays.{event_by, due_by, due_of, due_on, fee_by, fee_of, fee_on}

-- a day lies in the period of a cell
abbrev pub IsDayOf : ℕ → Cell → Type 0
IsDayOf day cell = (cell.start ≤ day) × (day < cell.end)

-- a cell is for one day alone
abbrev pub IsOneDay : ℕ → Cell → Type 0
IsOneDay day cell = (cell.start ≡ day) × (cell.end ≡ day + 1)

-- the last day up to one that passes a test isn't later
last_day_on-high : (test : ℕ → Bool) (day : ℕ) → last_day_on test day ≤ day
unfolding last_day_on
last_day_on-high test zero = omega arith
last_day_on-high test (suc before) =
    cond_both (test (suc before)) (suc before) (last_day_on test before) (λ found. found ≤ suc before)
    (λ _. omega arith)
    (λ _. omega (arith, last_day_on-high test before))

-- and the next one, among however many, isn't earlier
next_day_after-low : (test : ℕ → Bool) (most day : ℕ) → day ≤ next_day_after test most day
unfolding next_day_after
next_day_after-low test zero day = omega arith
next_day_after-low test (suc more) day =
    cond_both (test (day + 1)) (day + 1) (next_day_after test more (day + 1)) (λ found. day ≤ found)
    (λ _. omega arith)
    (λ _. omega (arith, next_day_after-low test more (day + 1)))

-- among one or more it is later
next_day_after-later : (test : ℕ → Bool) (more day : ℕ) → day < next_day_after test (suc more) day
unfolding next_day_after
next_day_after-later test more day =
    cond_both (test (day + 1)) (day + 1) (next_day_after test more (day + 1)) (λ found. day < found)
    (λ _. omega arith)
    (λ _. omega (arith, next_day_after-low test more (day + 1)))

-- a day lies in its period
period_on-has_day : (start : ℕ) (period : Period) (bcd day : ℕ)
    → ((period_on start period bcd day).0 ≤ day) × (day < (period_on start period bcd day).1)
unfolding period_on
period_on-has_day start period bcd day = (
  last_day_on-high (is_boundary start period bcd) day,
  next_day_after-later (is_boundary start period bcd) 730 day,
)

-- what passes a test is there without it
some-if : {A : Type 0} (passes : Bool) (found : Option A) (it : A)
    → (if passes then found else None) ≡ Some it → found ≡ Some it
some-if true found it is = is
some-if false found it is = absurd (none-some it is)

-- the cell by what governs a day has the day
cell_by-has_day : (facts : FactsValue) (subscription : Subscription) (day : ℕ) (governing : Governing)
    (cell : Cell)
    → cell_by facts subscription day governing ≡ Some cell → IsDayOf day cell
cell_by-has_day facts subscription day governing cell is =
    by_price (is_no_period governing.phase.period) (price_in facts.currency governing.phase.recurring) is
  where
    period : ℕ × ℕ
    period = period_on governing.start governing.phase.period (cycle_day facts subscription governing) day

    by_price : (free : Bool) (price : Option ℕ)
        → (if free then None else option_map (cell_of governing period) price) ≡ Some cell
        → IsDayOf day cell
    by_price true price is = absurd (none-some cell is)
    by_price false None is = absurd (none-some cell is)
    by_price false (Some price) is =
        let same : cell_of governing period price ≡ cell = cc in
        let has_day = period_on-has_day governing.start governing.phase.period
        (cycle_day facts subscription governing) day in
        subst (IsDayOf day) same has_day

-- and so has the cell of a day
pub cell_on-has_day : (facts : FactsValue) (subscription : Subscription) (sub day : ℕ) (cell : Cell)
    → cell_on facts subscription sub day ≡ Some cell → IsDayOf day cell
unfolding cell_on
cell_on-has_day facts subscription sub day cell is =
    option_and_then_some (cell_by facts subscription day)
    (governing_on facts.catalog subscription.entries day) cell
    (some-if _ _ cell is)
    (λ governing governs found. cell_by-has_day facts subscription day governing cell found)

-- what is due of a cell is the cell
due_by-same : (billed event : ℕ) (cell due : Cell) → due_by billed event cell ≡ Some due → cell ≡ due
due_by-same billed event cell due is =
    let found : Some cell ≡ Some due =
    some-if (nat_le cell.start billed && nat_le event billed) (Some cell) due is in
    cc

-- so the due cell of a day has the day
pub due_on-has_day : (facts : FactsValue) (sub billed day : ℕ) (cell : Cell)
    → due_on facts sub billed day ≡ Some cell
    → IsDayOf day cell
unfolding due_on
due_on-has_day facts sub billed day cell is =
    option_and_then_some (λ (own : Subscription). due_of facts own sub billed day) (subscription_at facts sub)
    cell is
    (λ own at due. of_own own due)
  where
    of_own : (own : Subscription) → due_of facts own sub billed day ≡ Some cell → IsDayOf day cell
    of_own own due =
        option_and_then_some
        (λ (governing : Governing). option_and_then (due_by billed (event_by facts own sub governing day))
        (cell_on facts own sub day))
        (governing_on facts.catalog own.entries day) cell due
        (λ governing governs found.
        option_and_then_some (due_by billed (event_by facts own sub governing day))
        (cell_on facts own sub day) cell found
        (λ other here by. cell_on-has_day facts own sub day cell
        (subst (λ (it : Cell). cell_on facts own sub day ≡ Some it)
        (due_by-same billed (event_by facts own sub governing day) other cell by) here)))

-- from the end of days on no day has a cell
pub cell_on-late : (facts : FactsValue) (subscription : Subscription) (sub day : ℕ) → end_of_days ≤ day
    → cell_on facts subscription sub day ≡ None
unfolding cell_on
cell_on-late facts subscription sub day late =
    let after : nat_le day last_charged ≡ false = lt-leb day last_charged (omega (arith, late)) in
    rw after refl

-- so nothing is due
pub due_on-late : (facts : FactsValue) (sub billed day : ℕ) → end_of_days ≤ day
    → due_on facts sub billed day ≡ None
unfolding due_on
due_on-late facts sub billed day late = by_subscription (subscription_at facts sub)
  where
    by_governing : (own : Subscription) (governing : Option Governing)
        → option_and_then (λ (it : Governing).
        option_and_then (due_by billed (event_by facts own sub it day)) (cell_on facts own sub day)) governing
        ≡ None
    by_governing own None = refl
    by_governing own (Some governing) = rw (cell_on-late facts own sub day late) refl

    by_subscription : (subscription : Option Subscription)
        → option_and_then (λ (own : Subscription). due_of facts own sub billed day) subscription ≡ None
    by_subscription None = refl
    by_subscription (Some own) = by_governing own (governing_on facts.catalog own.entries day)

-- the fee by what governs a day is for that day
fee_by-one_day : (facts : FactsValue) (day : ℕ) (governing : Governing) (cell : Cell)
    → fee_by facts day governing ≡ Some cell
    → IsOneDay day cell
fee_by-one_day facts day governing cell is =
    by_price (price_in facts.currency governing.phase.fixed) (some-if _ _ cell is)
  where
    by_price : (price : Option ℕ) → option_map (cell_of governing (day, day + 1)) price ≡ Some cell
        → IsOneDay day cell
    by_price None is = absurd (none-some cell is)
    by_price (Some price) is =
        let same : cell_of governing (day, day + 1) price ≡ cell = cc in
        subst (IsOneDay day) same (refl, refl)

-- and so is the fee cell of a day
pub fee_on-one_day : (facts : FactsValue) (sub billed day : ℕ) (cell : Cell)
    → fee_on facts sub billed day ≡ Some cell
    → IsOneDay day cell
unfolding fee_on
fee_on-one_day facts sub billed day cell is =
    option_and_then_some (λ (own : Subscription). fee_of facts own billed day) (subscription_at facts sub)
    cell is
    (λ own at fee.
    option_and_then_some (fee_by facts day) (governing_on facts.catalog own.entries day) cell
    (some-if _ _ cell fee)
    (λ governing governs found. fee_by-one_day facts day governing cell found))

-- from the end of days on there is none
pub fee_on-late : (facts : FactsValue) (sub billed day : ℕ) → end_of_days ≤ day
    → fee_on facts sub billed day ≡ None
unfolding fee_on
fee_on-late facts sub billed day late = by_subscription (subscription_at facts sub)
  where
    after : nat_le day last_charged ≡ false
    after = lt-leb day last_charged (omega (arith, late))

    by_subscription : (subscription : Option Subscription)
        → option_and_then (λ (own : Subscription). fee_of facts own billed day) subscription ≡ None
    by_subscription None = refl
    by_subscription (Some own) = rw after refl
