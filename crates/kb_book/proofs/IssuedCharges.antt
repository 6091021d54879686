-- What is issued for all subscriptions charges each day by what is due, amounts to what all days cost more
-- than before, and has no item on a day that keeps its cell.
use Rattle.std.proofs.Common.{◌≡◌, ℕ, suc, ◌+◌, List, [], ◌∷◌, length, sum_by, Option, All, pos, ◌+ℤ◌, refl}
use Rattle.std.proofs.Common.{ap, arith}
use Rattle.std.specs.List.{range_with_len}
use Rattle.std.proofs.lemmas.Int.{ints}
use Rattle.std.proofs.lemmas.List.Sums.{sum_by-cons}
use Rattle.std.proofs.lemmas.List.Elements.{All-head, All-tail, All-weaker}
use Rattle.kb_days.specs.Calendar.{first_day, charged_days}
use Rattle.kb_sharing.specs.Sums.{sum_of}
use Rattle.kb_sharing.proofs.MemberSums.{sum_of-append}
use Rattle.kb_credit.specs.Items.{amount_of}
use Rattle.kb_due.specs.Facts.{FactsValue}
use Rattle.kb_due.specs.DueDays.{due_at, fee_at}
use Rattle.kb_tree.specs.Amounts.{charged}
use Rattle.kb_tree.specs.Numbers.{AreBelow}
use Rattle.kb_tree.specs.Issues.{SubscriptionItems, Issue, items_due, issue_from}
use Rattle.kb_book.specs.BilledBooks.{AreCharged}
use Rattle.kb_book.specs.AddedItems.{AllAdded}
use Rattle.kb_book.proofs.ChargedSubscriptions.{AreBelow-higher, items-charged, items-balanced}
use Rattle.kb_book.proofs.ChargedSubscriptions.{fees-added, recurring-added}

-- what the days of the subscription at a place cost
abbrev pub days_charged : FactsValue → Option ℕ → ℕ → ℕ
days_charged facts billed sub =
    charged (fee_at facts sub billed) first_day charged_days + charged
    (due_at facts sub billed) first_day charged_days

-- what those of some subscriptions from a place on cost
abbrev pub all_charged : FactsValue → Option ℕ → ℕ → ℕ → ℕ
all_charged facts billed sub count = sum_by (days_charged facts billed) (range_with_len sub count)

module _ (before after : FactsValue) (was is : Option ℕ) where
  -- what is issued for one of the subscriptions
  abbrev issue_at : ℕ → ℕ → SubscriptionItems → Issue
  issue_at number sub items =
      items_due (fee_at after sub is) (due_at after sub is) first_day charged_days number sub items

  -- each day is charged by what is due
  pub issue-charged : (number sub : ℕ) (charges : List SubscriptionItems) → AreCharged before was sub charges
      → All (AreBelow number) charges
      → AreCharged after is sub (issue_from after is first_day charged_days number sub charges).charges
  issue-charged number sub [] charged below = tt
  issue-charged number sub (items ∷ later) charged below =
      let next = number + length (issue_at number sub items).lines in (
        items-charged (fee_at before sub was) (due_at before sub was) (fee_at after sub is)
            (due_at after sub is) number
            items charged.0 (All-head (AreBelow number) items later below),
        issue-charged next (sub + 1) later charged.1
            (All-weaker (AreBelow number) (AreBelow next)
            (λ one here. AreBelow-higher number next one (omega arith) here) later
            (All-tail (AreBelow number) items later below)),
      )

  -- the lines amount to what the days cost more than before
  pub issue-balanced : (number sub : ℕ) (charges : List SubscriptionItems) → AreCharged before was sub charges
      → sum_of amount_of (issue_from after is first_day charged_days number sub charges).lines
      +ℤ pos (all_charged before was sub (length charges))
      ≡ pos (all_charged after is sub (length charges))
  issue-balanced number sub [] charged = refl
  issue-balanced number sub (items ∷ later) charged =
      let one = issue_at number sub items in
      let next = number + length one.lines in
      let rest = issue_from after is first_day charged_days next (sub + 1) later in
      let both = sum_of-append amount_of one.lines rest.lines in
      let here = items-balanced (fee_at before sub was) (due_at before sub was) (fee_at after sub is)
      (due_at after sub is) number items charged.0 sub in
      let others = issue-balanced next (sub + 1) later charged.1 in
      let old = sum_by-cons (days_charged before was) sub (range_with_len (sub + 1) (length later)) in
      let new = sum_by-cons (days_charged after is) sub (range_with_len (sub + 1) (length later)) in
      omega (arith, ints)

  -- no item has a day that keeps its cell
  pub issue-added : (number sub : ℕ) (charges : List SubscriptionItems) → AreCharged before was sub charges
      → AllAdded before after was is sub charges
      (issue_from after is first_day charged_days number sub charges).charges
  issue-added number sub [] charged = tt
  issue-added number sub (items ∷ later) charged = (
    record {
      fees = fees-added (fee_at before sub was) (due_at before sub was) (fee_at after sub is)
          (due_at after sub is) number
          items charged.0;
      recurring = recurring-added (fee_at before sub was) (due_at before sub was) (fee_at after sub is)
          (due_at after sub is) number items charged.0;
    },
    issue-added (number + length (issue_at number sub items).lines) (sub + 1) later charged.1,
  )

  -- as many subscriptions as before
  pub issue-length : (number sub : ℕ) (charges : List SubscriptionItems)
      → length (issue_from after is first_day charged_days number sub charges).charges ≡ length charges
  issue-length number sub [] = refl
  issue-length number sub (items ∷ later) =
      ap suc (issue-length (number + length (issue_at number sub items).lines) (sub + 1) later)
