-- A subscription that isn't there yet has nothing due, and so is charged by what is due without an item.
use Rattle.std.proofs.Common.{◌≡◌, ℕ, ◌+◌, List, [], ◌∷◌, ◌++◌, length, Option, Some, None}
use Rattle.std.proofs.Common.{option_and_then, option_to_list, refl, ap, sym, ◌∙◌, arith}
use Rattle.std.proofs.lemmas.List.Elements.{All-nil}
use Rattle.kb_base.proofs.Summed.{sum_by-range-more, sum_by-range-none}
use Rattle.kb_days.specs.Calendar.{first_day, charged_days}
use Rattle.kb_timeline.specs.declared.subscription.Subscription.{Subscription}
use Rattle.kb_due.specs.declared.cell.Cell.{Cell}
use Rattle.kb_due.specs.Facts.{FactsValue, subscription_at}
use Rattle.kb_due.specs.DueDays.{due_on, fee_on, due_at, fee_at, due_of, fee_of}
use Rattle.kb_tree.specs.Items.{Charge, cell_at}
use Rattle.kb_tree.specs.Amounts.{charged, due_cost}
use Rattle.kb_tree.specs.Covers.{IsBelow}
use Rattle.kb_tree.specs.Numbers.{AreBelow}
use Rattle.kb_tree.specs.Issues.{SubscriptionItems, no_items}
use Rattle.kb_book.specs.BilledBooks.{IsCharged, AreCharged}
use Rattle.kb_book.specs.AddedItems.{AllAdded}
use Rattle.kb_book.proofs.IssuedCharges.{days_charged, all_charged}

-- no cell is ever due where no subscription is
due_on-none : (facts : FactsValue) (sub billed day : ℕ) → subscription_at facts sub ≡ None
    → due_on facts sub billed day ≡ None
unfolding due_on
due_on-none facts sub billed day none =
    ap (option_and_then (λ (subscription : Subscription). due_of facts subscription sub billed day)) none

fee_on-none : (facts : FactsValue) (sub billed day : ℕ) → subscription_at facts sub ≡ None
    → fee_on facts sub billed day ≡ None
unfolding fee_on
fee_on-none facts sub billed day none =
    ap (option_and_then (λ (subscription : Subscription). fee_of facts subscription billed day)) none

-- whether the billed date is there or not
due_at-none : (facts : FactsValue) (sub : ℕ) (billed : Option ℕ) (day : ℕ) → subscription_at facts sub ≡ None
    → due_at facts sub billed day ≡ None
due_at-none facts sub None day none = refl
due_at-none facts sub (Some date) day none = due_on-none facts sub date day none

fee_at-none : (facts : FactsValue) (sub : ℕ) (billed : Option ℕ) (day : ℕ) → subscription_at facts sub ≡ None
    → fee_at facts sub billed day ≡ None
fee_at-none facts sub None day none = refl
fee_at-none facts sub (Some date) day none = fee_on-none facts sub date day none

-- so it is charged by what is due without an item
no_items-charged : (facts : FactsValue) (billed : Option ℕ) (sub : ℕ) → subscription_at facts sub ≡ None
    → IsCharged (fee_at facts sub billed) (due_at facts sub billed) no_items
no_items-charged facts billed sub none = record {
  fees = λ day low high. sym (ap option_to_list (fee_at-none facts sub billed day none));
  recurring = λ day low high. sym (ap option_to_list (due_at-none facts sub billed day none));
  fee_cells = λ day. All-nil (λ (charge : Charge). cell_at [] charge.number ≡ Some charge.cell);
  recurring_cells = λ day. All-nil (λ (charge : Charge). cell_at [] charge.number ≡ Some charge.cell);
}

-- no number is in it
pub no_items-below : (first : ℕ) → AreBelow first no_items
no_items-below first = record { fees = All-nil (IsBelow first); recurring = All-nil (IsBelow first) }

-- behind others
pub AreCharged-start : (facts : FactsValue) (billed : Option ℕ) (sub : ℕ) (charges : List SubscriptionItems)
    → AreCharged facts billed sub charges → subscription_at facts (sub + length charges) ≡ None
    → AreCharged facts billed sub (charges ++ no_items ∷ [])
AreCharged-start facts billed sub [] charged none =
    (no_items-charged facts billed sub (ap (subscription_at facts) (omega arith) ∙ none), tt)
AreCharged-start facts billed sub (items ∷ later) charged none = (
  charged.0,
  AreCharged-start facts billed (sub + 1) later charged.1 (ap (subscription_at facts) (omega arith) ∙ none),
)

-- days without a cell cost nothing
charged-none : (due : ℕ → Option Cell) (day count : ℕ) → ((d : ℕ) → due d ≡ None) → charged due day count ≡ 0
unfolding charged
charged-none due day count none =
    sum_by-range-none (λ d. due_cost (due d) d) day count
    (λ d low high. ap (λ (one : Option Cell). due_cost one d) (none d))

-- so all subscriptions cost what they do without it
pub all_charged-start : (facts : FactsValue) (billed : Option ℕ) (count : ℕ)
    → subscription_at facts count ≡ None
    → all_charged facts billed 0 (count + 1) ≡ all_charged facts billed 0 count
all_charged-start facts billed count none =
    let more = sum_by-range-more (days_charged facts billed) 0 count in
    let fees = charged-none (fee_at facts count billed) first_day charged_days
    (λ day. fee_at-none facts count billed day none) in
    let dues = charged-none (due_at facts count billed) first_day charged_days
    (λ day. due_at-none facts count billed day none) in
    let last : 0 + count ≡ count = omega arith in
    let same = ap (days_charged facts billed) last in
    omega (arith, more, same, fees, dues)

-- items that are only added to those of a start are only added where nothing was
pub AllAdded-start : (before after : FactsValue) (was is : Option ℕ) (sub : ℕ)
    (olds news : List SubscriptionItems)
    → AllAdded before after was is sub (olds ++ no_items ∷ []) news
    → AllAdded before after was is sub olds news
AllAdded-start before after was is sub [] [] added = tt
AllAdded-start before after was is sub [] (new ∷ []) added = added
AllAdded-start before after was is sub [] (new ∷ next ∷ later) added = added
AllAdded-start before after was is sub (old ∷ olds) [] added = tt
AllAdded-start before after was is sub (old ∷ olds) (new ∷ later) added =
    (added.0, AllAdded-start before after was is (sub + 1) olds later added.1)
