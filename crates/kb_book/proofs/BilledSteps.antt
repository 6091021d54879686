-- An edited book that is billed has each day charged by what is due, and its invoices total that.
use Rattle.std.proofs.Common.{◌≡◌, ℕ, ◌+◌, ◌≤◌, ◌⊎◌, inl, inr, List, [], ◌∷◌, ◌++◌, length, None, All, pos}
use Rattle.std.proofs.Common.{◌+ℤ◌, ◌-ℤ◌, ◌≤ℤ◌, ap, sym, subst, ◌∙◌, arith, length-append}
use Rattle.std.specs.Int.{int_max}
use Rattle.std.proofs.lemmas.Int.{ints}
use Rattle.std.proofs.lemmas.Option.{slice_get_past}
use Rattle.std.proofs.lemmas.List.Elements.{All-push}
use Rattle.kb_days.specs.Calendar.{first_day, charged_days}
use Rattle.kb_sharing.specs.Sums.{sum_of}
use Rattle.kb_sharing.proofs.MemberSums.{sum_of-append}
use Rattle.kb_credit.specs.declared.line.Line.{Line}
use Rattle.kb_credit.specs.Items.{amount_of}
use Rattle.kb_credit.specs.InvoiceRows.{InvoicesValue, charged, credit}
use Rattle.kb_due.specs.Facts.{subscription_at}
use Rattle.kb_tree.specs.Numbers.{AreBelow}
use Rattle.kb_book.specs.Worlds.{WorldValue}
use Rattle.kb_tree.specs.Issues.{SubscriptionItems, Issue, no_items}
use Rattle.kb_book.specs.Books.{BookValue}
use Rattle.kb_book.specs.Dues.{facts_of, charged_by}
use Rattle.kb_book.specs.Steps.{issue_over, billed_with}
use Rattle.kb_book.specs.SoundBooks.{IsBook}
use Rattle.kb_book.specs.BilledBooks.{AreCharged, IsBilled, IsEven, paid_in}
use Rattle.kb_book.specs.AddedItems.{AllAdded}
use Rattle.kb_book.proofs.IssuedCharges.{all_charged, issue-charged, issue-balanced, issue-added}
use Rattle.kb_book.proofs.StartedSubscriptions.{AreCharged-start, all_charged-start, AllAdded-start}
use Rattle.kb_book.proofs.StartedSubscriptions.{no_items-below}
use Rattle.kb_book.proofs.BilledRows.{charged-billed_rows, credit-billed_rows, unpaid-billed_rows}
use Rattle.kb_book.proofs.BilledRows.{billed_rows-items}
use Rattle.kb_book.proofs.BegunBooks.{IsEdited, AreKept, HaveOneMore, subscription_count}

module _ (book edited : BookValue) (own : List Line) (sound : IsBook book)
    (edit : IsEdited book edited own) where
  -- the numbers of the edited book's items are below the next one
  pub were-below : All (AreBelow (length edited.invoices.items + 1)) edited.charges
  were-below = by_edit edit.subscriptions
    where
      next : length book.invoices.items + 1 ≡ length edited.invoices.items + 1
      next = ap (λ (invoices : InvoicesValue). length invoices.items + 1) (sym edit.invoices)

      by_edit : AreKept book edited ⊎ HaveOneMore book edited
          → All (AreBelow (length edited.invoices.items + 1)) edited.charges
      by_edit (inl kept) =
          subst (λ first. All (AreBelow first) edited.charges) next
          (subst (All (AreBelow (length book.invoices.items + 1))) (sym kept.0) sound.below)
      by_edit (inr more) =
          subst (λ first. All (AreBelow first) edited.charges) next
          (subst (All (AreBelow (length book.invoices.items + 1))) (sym more.0)
          (All-push (AreBelow (length book.invoices.items + 1)) book.charges no_items sound.below
          (no_items-below (length book.invoices.items + 1))))

  -- each subscription has its items
  pub edited-matched : length edited.charges ≡ subscription_count edited.timeline
  edited-matched = by_edit edit.subscriptions
    where
      by_edit : AreKept book edited ⊎ HaveOneMore book edited
          → length edited.charges ≡ subscription_count edited.timeline
      by_edit (inl kept) = omega (arith, ap length kept.0, kept.1, sound.matched)
      by_edit (inr more) =
          omega (arith, ap length more.0, length-append book.charges (no_items ∷ []), more.1, sound.matched)

module _ (other world : WorldValue) (book edited : BookValue) (own : List Line) (today : ℕ)
    (sound : IsBook book)
    (billed : IsBilled other book) (edit : IsEdited book edited own) where
  -- what is billed: the new items of all subscriptions
  abbrev issue : Issue
  issue = issue_over world edited first_day charged_days

  -- the book once it is billed
  abbrev after : BookValue
  after = billed_with edited today issue own

  -- no subscription is past the last one
  none-behind : (place : ℕ) → length book.charges ≤ place → subscription_at (facts_of other book) place ≡ None
  none-behind place past = slice_get_past book.timeline.subscriptions place (omega (arith, sound.matched))

  -- before, the days of the edited book's subscriptions are charged by what was due
  pub were-charged : AreCharged (facts_of other book) book.billed 0 edited.charges
  were-charged = by_edit edit.subscriptions
    where
      by_edit : AreKept book edited ⊎ HaveOneMore book edited
          → AreCharged (facts_of other book) book.billed 0 edited.charges
      by_edit (inl kept) = subst (AreCharged (facts_of other book) book.billed 0) (sym kept.0) billed.days
      by_edit (inr more) =
          subst (AreCharged (facts_of other book) book.billed 0) (sym more.0)
          (AreCharged-start (facts_of other book) book.billed 0 book.charges billed.days
          (none-behind (0 + length book.charges) (omega arith)))

  -- and cost what those of the book did
  were-costing : all_charged (facts_of other book) book.billed 0 (length edited.charges)
      ≡ all_charged (facts_of other book) book.billed 0 (subscription_count book.timeline)
  were-costing = by_edit edit.subscriptions
    where
      by_edit : AreKept book edited ⊎ HaveOneMore book edited
          → all_charged (facts_of other book) book.billed 0 (length edited.charges)
          ≡ all_charged (facts_of other book) book.billed 0 (subscription_count book.timeline)
      by_edit (inl kept) =
          ap (all_charged (facts_of other book) book.billed 0) (ap length kept.0 ∙ sound.matched)
      by_edit (inr more) =
          ap (all_charged (facts_of other book) book.billed 0)
          (ap length more.0 ∙ length-append book.charges (no_items ∷ []))
          ∙ all_charged-start (facts_of other book) book.billed (length book.charges)
          (none-behind (length book.charges) (omega arith))
          ∙ ap (all_charged (facts_of other book) book.billed 0) sound.matched

  -- the invoices total what all days cost, with what is charged and credited beside them
  after-totals : charged after.invoices.rows ≡ charged_by world after
  after-totals =
      let costs = all_charged (facts_of world edited) edited.billed 0 in
      let had = all_charged (facts_of other book) book.billed 0 in
      let made = charged-billed_rows edited.payments edited.invoices today (issue.lines ++ own) in
      let lines = sum_of-append amount_of issue.lines own in
      let same : charged edited.invoices.rows ≡ charged book.invoices.rows =
      ap (λ (invoices : InvoicesValue). charged invoices.rows) edit.invoices in
      let before : charged book.invoices.rows ≡ pos (had (subscription_count book.timeline)) +ℤ book.beside =
      billed.totals in
      let more : sum_of amount_of issue.lines +ℤ pos (had (length edited.charges))
      ≡ pos (costs (length edited.charges)) =
      issue-balanced (facts_of other book) (facts_of world edited) book.billed edited.billed
      (length edited.invoices.items + 1) 0 edited.charges were-charged in
      let old : had (length edited.charges) ≡ had (subscription_count book.timeline) = were-costing in
      let new : costs (length edited.charges) ≡ costs (subscription_count edited.timeline) =
      ap costs (edited-matched book edited own sound edit) in
      let beside = edit.beside in
      let all : charged after.invoices.rows
      ≡ pos (costs (subscription_count edited.timeline)) +ℤ edited.beside =
      omega (arith, ints) in
      all

  -- so the book is billed
  pub after-billed : IsBilled world after
  after-billed = record {
    days =
        issue-charged (facts_of other book) (facts_of world edited) book.billed edited.billed
        (length edited.invoices.items + 1) 0 edited.charges were-charged
        (were-below book edited own sound edit);
    totals = after-totals;
  }

  -- items are only added, and only on days whose cell changes
  pub after-added : AllAdded (facts_of other book) (facts_of world after) book.billed after.billed 0
      book.charges
      after.charges
  after-added = by_edit edit.subscriptions
    where
      made : AllAdded (facts_of other book) (facts_of world after) book.billed after.billed 0 edited.charges
          after.charges
      made =
          issue-added (facts_of other book) (facts_of world edited) book.billed edited.billed
          (length edited.invoices.items + 1) 0 edited.charges were-charged

      by_edit : AreKept book edited ⊎ HaveOneMore book edited
          → AllAdded (facts_of other book) (facts_of world after) book.billed after.billed 0 book.charges
          after.charges
      by_edit (inl kept) =
          subst (λ (olds : List SubscriptionItems). AllAdded (facts_of other book)
          (facts_of world after) book.billed
          after.billed 0 olds after.charges) kept.0 made
      by_edit (inr more) =
          AllAdded-start (facts_of other book) (facts_of world after) book.billed after.billed 0 book.charges
          after.charges
          (subst (λ (olds : List SubscriptionItems). AllAdded (facts_of other book)
          (facts_of world after) book.billed
          after.billed 0 olds after.charges) more.0 made)

  -- so are those of invoices
  pub after-items : (more : List (ℕ × Line)) × (after.invoices.items ≡ book.invoices.items ++ more)
  after-items =
      subst (λ (invoices : InvoicesValue). (more : List (ℕ × Line))
      × (after.invoices.items ≡ invoices.items ++ more))
      edit.invoices (billed_rows-items edited.payments edited.invoices today (issue.lines ++ own))

  -- credit and what is unpaid are by how much payments and charges exceed each other
  pub after-even : pos 0 ≤ℤ credit book.invoices.rows → IsEven world after
  after-even least =
      let low : pos 0 ≤ℤ credit edited.invoices.rows =
      subst (λ (invoices : InvoicesValue). pos 0 ≤ℤ credit invoices.rows) (sym edit.invoices) least in
      record {
        credit =
            credit-billed_rows edited.payments edited.invoices today (issue.lines ++ own) low
            ∙ ap (λ sum. int_max (pos 0) (paid_in after -ℤ sum)) after-totals;
        unpaid =
            unpaid-billed_rows edited.payments edited.invoices today (issue.lines ++ own) low
            ∙ ap (λ sum. int_max (pos 0) (sum -ℤ paid_in after)) after-totals;
      }
