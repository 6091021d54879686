-- What an edited book that is billed keeps of what always holds of a book.
use Rattle.std.proofs.Common.{◌≡◌, ℕ, ◌+◌, ◌≤◌, List, ◌++◌, length, All, pos, ◌≤ℤ◌, ◌-ℤ◌, sym, ap, ap₂, ◌∙◌}
use Rattle.std.proofs.Common.{arith, length-append}
use Rattle.std.proofs.lemmas.Int.{ints, clamps}
use Rattle.std.proofs.lemmas.List.Elements.{All-weaker}
use Rattle.std.specs.Int.{int_max}
use Rattle.kb_days.specs.Calendar.{first_day, charged_days}
use Rattle.kb_credit.specs.declared.row.Row.{Row}
use Rattle.kb_credit.specs.declared.line.Line.{Line}
use Rattle.kb_credit.specs.InvoiceRows.{InvoicesValue, balance_of, charged, paid, credit, unpaid}
use Rattle.kb_credit.proofs.ClosedForm.{All-AreWhole, AreWhole-levelled_rows, charged-levelled_rows}
use Rattle.kb_credit.proofs.ClosedForm.{paid-levelled_rows, credit-levelled_rows, unpaid-levelled}
use Rattle.kb_tree.specs.Numbers.{AreBelow}
use Rattle.kb_book.specs.Worlds.{WorldValue}
use Rattle.kb_tree.specs.Issues.{Issue}
use Rattle.kb_book.specs.Books.{BookValue}
use Rattle.kb_book.specs.Dues.{facts_of}
use Rattle.kb_book.specs.Steps.{issue_over, billed_with, with_paid, with_invoice}
use Rattle.kb_book.specs.SoundBooks.{IsBook}
use Rattle.kb_book.proofs.IssuedCharges.{issue-length}
use Rattle.kb_book.proofs.BelowIssues.{issue-below, billed_rows-count}
use Rattle.kb_book.proofs.BilledRows.{billed_rows-noted, credit-noted}
use Rattle.kb_book.proofs.KeptTotals.{billed_rows-few}
use Rattle.kb_book.proofs.ChargedSubscriptions.{AreBelow-higher}
use Rattle.kb_book.proofs.BegunBooks.{IsEdited, subscription_count}
use Rattle.kb_book.proofs.BilledSteps.{were-below, edited-matched}

module _ (world : WorldValue) (book edited : BookValue) (own : List Line) (today : ℕ) (sound : IsBook book)
    (edit : IsEdited book edited own) where
  -- the new items of all subscriptions, and the book once it is billed
  abbrev issue : Issue
  issue = issue_over world edited first_day charged_days

  abbrev after : BookValue
  after = billed_with edited today issue own

  -- each subscription has its items
  pub after-matched : length after.charges ≡ subscription_count after.timeline
  after-matched =
      issue-length (facts_of world edited) (facts_of world edited) edited.billed edited.billed
      (length edited.invoices.items + 1) 0 edited.charges
      ∙ edited-matched book edited own sound edit

  -- whose numbers are below the next one
  pub after-below : All (AreBelow (length after.invoices.items + 1)) after.charges
  after-below =
      let first = length edited.invoices.items + 1 in
      let past = length after.invoices.items + 1 in
      let count = billed_rows-count edited.payments edited.invoices today (issue.lines ++ own) in
      let lines = length-append issue.lines own in
      All-weaker (AreBelow (first + length issue.lines)) (AreBelow past)
      (λ one below. AreBelow-higher (first + length issue.lines) past one (omega (arith, count, lines)) below)
      after.charges
      (issue-below (facts_of world edited) edited.billed first 0 edited.charges
      (were-below book edited own sound edit))

  -- at most one invoice a command
  pub after-issued : length after.invoices.rows ≤ after.commands
  after-issued =
      let few = billed_rows-few edited.payments edited.invoices today (issue.lines ++ own) in
      let same = ap (λ (invoices : InvoicesValue). length invoices.rows) edit.invoices in
      omega (arith, few.1, same, edit.commands, sound.issued)

  -- there are as many invoices as before, or more
  pub after-more : length book.invoices.rows ≤ length after.invoices.rows
  after-more =
      let few = billed_rows-few edited.payments edited.invoices today (issue.lines ++ own) in
      let same = ap (λ (invoices : InvoicesValue). length invoices.rows) edit.invoices in
      omega (arith, few.0, same)

  -- what is paid is what payments say
  pub after-noted : with_paid after.payments after.invoices ≡ after.invoices
  after-noted =
      ap (λ (rows : List Row). record after.invoices { rows = rows })
      (billed_rows-noted edited.payments edited.invoices today (issue.lines ++ own))

  -- and none is paid beyond its total
  pub after-levelled : All (λ (row : Row). pos 0 ≤ℤ balance_of row) after.invoices.rows
  after-levelled =
      let made = with_paid edited.payments (with_invoice edited.invoices today (issue.lines ++ own)) in
      All-AreWhole after.invoices.rows (AreWhole-levelled_rows made.rows)

  -- no credit was owed
  least : pos 0 ≤ℤ credit (with_paid edited.payments (with_invoice edited.invoices today
      (issue.lines ++ own))).rows
  least =
      let same = credit-noted edited.payments edited.invoices today (issue.lines ++ own) in
      let before = ap (λ (invoices : InvoicesValue). credit invoices.rows) edit.invoices in
      omega (arith, ints, clamps, same, before, sound.credited)

  -- credit is by how much payments exceed totals
  pub after-credited : credit after.invoices.rows
      ≡ int_max (pos 0) (paid after.invoices.rows -ℤ charged after.invoices.rows)
  after-credited =
      let rows = (with_paid edited.payments (with_invoice edited.invoices today (issue.lines ++ own))).rows in
      credit-levelled_rows rows least
      ∙ ap₂ (λ a b. int_max (pos 0) (a -ℤ b)) (sym (paid-levelled_rows rows))
      (sym (charged-levelled_rows rows))

  -- and what is unpaid the reverse
  pub after-owed : unpaid after.invoices.rows
      ≡ int_max (pos 0) (charged after.invoices.rows -ℤ paid after.invoices.rows)
  after-owed =
      let rows = (with_paid edited.payments (with_invoice edited.invoices today (issue.lines ++ own))).rows in
      unpaid-levelled rows least
      ∙ ap₂ (λ a b. int_max (pos 0) (a -ℤ b)) (sym (charged-levelled_rows rows))
      (sym (paid-levelled_rows rows))
