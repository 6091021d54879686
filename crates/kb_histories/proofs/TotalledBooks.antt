-- The invoices of a book that is billed by the texts of now total what its days cost, once a command is
-- accepted.
use Rattle.std.proofs.Common.{◌≡◌, ℕ, ◌+◌, ◌≤◌, ◌⊎◌, inl, inr, List, ◌∷◌, [], ◌++◌, length, None}
use Rattle.std.proofs.Common.{pos, ◌+ℤ◌, ap, sym, subst, ◌∙◌, arith, length-append}
use Rattle.std.proofs.lemmas.Int.{ints}
use Rattle.std.proofs.lemmas.Option.{slice_get_past}
use Rattle.kb_days.specs.Calendar.{first_day, charged_days}
use Rattle.kb_sharing.specs.Sums.{sum_of}
use Rattle.kb_sharing.proofs.MemberSums.{sum_of-append}
use Rattle.kb_credit.specs.declared.line.Line.{Line}
use Rattle.kb_credit.specs.Items.{amount_of}
use Rattle.kb_credit.specs.InvoiceRows.{InvoicesValue, charged}
use Rattle.kb_due.specs.Facts.{subscription_at}
use Rattle.kb_book.specs.Worlds.{WorldValue}
use Rattle.kb_tree.specs.Issues.{Issue, no_items}
use Rattle.kb_book.specs.Books.{BookValue}
use Rattle.kb_book.specs.Dues.{facts_of, charged_by}
use Rattle.kb_book.specs.Steps.{issue_over, billed_with}
use Rattle.kb_book.specs.BilledBooks.{AreCharged, IsBilled}
use Rattle.kb_book.proofs.BegunBooks.{IsEdited, AreKept, HaveOneMore, subscription_count}
use Rattle.kb_book.proofs.BilledRows.{charged-billed_rows}
use Rattle.kb_book.proofs.IssuedCharges.{all_charged, issue-balanced}
use Rattle.kb_book.proofs.StartedSubscriptions.{AreCharged-start, all_charged-start}

module _ (world : WorldValue) (book edited : BookValue) (own : List Line) (today : ℕ)
    (billed : IsBilled world book) (matched : length book.charges ≡ length book.timeline.subscriptions)
    (edit : IsEdited book edited own) where
  -- what is billed: the new items of all subscriptions
  abbrev issue : Issue
  issue = issue_over world edited first_day charged_days

  -- the book once it is billed
  abbrev after : BookValue
  after = billed_with edited today issue own

  -- what so many subscriptions cost before, and now
  abbrev had : ℕ → ℕ
  had = all_charged (facts_of world book) book.billed 0

  abbrev costs : ℕ → ℕ
  costs = all_charged (facts_of world edited) edited.billed 0

  -- no subscription is past the last one
  none-behind : (place : ℕ) → length book.charges ≤ place → subscription_at (facts_of world book) place ≡ None
  none-behind place past = slice_get_past book.timeline.subscriptions place (omega (arith, matched))

  -- the days of the edited book's subscriptions were charged by what was due
  were-charged : AreCharged (facts_of world book) book.billed 0 edited.charges
  were-charged = by_edit edit.subscriptions
    where
      by_edit : AreKept book edited ⊎ HaveOneMore book edited
          → AreCharged (facts_of world book) book.billed 0 edited.charges
      by_edit (inl kept) = subst (AreCharged (facts_of world book) book.billed 0) (sym kept.0) billed.days
      by_edit (inr more) =
          subst (AreCharged (facts_of world book) book.billed 0) (sym more.0)
          (AreCharged-start (facts_of world book) book.billed 0 book.charges billed.days
          (none-behind (0 + length book.charges) (omega arith)))

  -- and cost what those of the book did
  were-costing : had (length edited.charges) ≡ had (subscription_count book.timeline)
  were-costing = by_edit edit.subscriptions
    where
      by_edit : AreKept book edited ⊎ HaveOneMore book edited
          → had (length edited.charges) ≡ had (subscription_count book.timeline)
      by_edit (inl kept) = ap had (ap length kept.0 ∙ matched)
      by_edit (inr more) =
          ap had (ap length more.0 ∙ length-append book.charges (no_items ∷ []))
          ∙ all_charged-start (facts_of world book) book.billed (length book.charges)
          (none-behind (length book.charges) (omega arith))
          ∙ ap had matched

  -- each subscription has its items
  edited-matched : length edited.charges ≡ subscription_count edited.timeline
  edited-matched = by_edit edit.subscriptions
    where
      by_edit : AreKept book edited ⊎ HaveOneMore book edited
          → length edited.charges ≡ subscription_count edited.timeline
      by_edit (inl kept) = omega (arith, ap length kept.0, kept.1, matched)
      by_edit (inr more) =
          omega (arith, ap length more.0, length-append book.charges (no_items ∷ []), more.1, matched)

  -- the invoices total what all days cost, with what is charged and credited beside them
  pub after-totals : charged after.invoices.rows ≡ charged_by world after
  after-totals =
      let made = charged-billed_rows edited.payments edited.invoices today (issue.lines ++ own) in
      let lines = sum_of-append amount_of issue.lines own in
      let same : charged edited.invoices.rows ≡ charged book.invoices.rows =
      ap (λ (invoices : InvoicesValue). charged invoices.rows) edit.invoices in
      let before : charged book.invoices.rows ≡ pos (had (subscription_count book.timeline)) +ℤ book.beside =
      billed.totals in
      let more : sum_of amount_of issue.lines +ℤ pos (had (length edited.charges))
      ≡ pos (costs (length edited.charges)) =
      issue-balanced (facts_of world book) (facts_of world edited) book.billed edited.billed
      (length edited.invoices.items + 1) 0 edited.charges were-charged in
      let old : had (length edited.charges) ≡ had (subscription_count book.timeline) = were-costing in
      let new : costs (length edited.charges) ≡ costs (subscription_count edited.timeline) =
      ap costs edited-matched in
      let beside = edit.beside in
      let all : charged after.invoices.rows
      ≡ pos (costs (subscription_count edited.timeline)) +ℤ edited.beside =
      omega (arith, ints) in
      all
