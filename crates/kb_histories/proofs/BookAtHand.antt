-- The work of a book that is at hand, once a command of the platform's own is accepted.
use Rattle.std.proofs.Common.{◌≡◌, ℕ, ◌+◌, ◌*◌, ◌≤◌, Bool, true, false, not, ◌&&◌, int_lt, pos, [], ◌++◌}
use Rattle.std.proofs.Common.{length, Some, None, if◌then◌else◌, refl, sym, ap, arith, true≢false, nat_lt}
use Rattle.std.proofs.lemmas.Bool.{le-ltb}
use Rattle.kb_days.specs.Calendar.{last_day, first_day, charged_days}
use Rattle.kb_payment.specs.PaymentSums.{has_automatic_since, open_purchases}
use Rattle.kb_payment.specs.PaymentEdits.{amount_of}
use Rattle.kb_codec.specs.declared.command.Command.{Command}
use Rattle.kb_codec.specs.declared.command.Command.TheVariants as kinds
use Rattle.kb_codec.specs.declared.command.Auto.{Auto}
use Rattle.kb_codec.specs.declared.command.Settle.{Settle}
use Rattle.kb_codec.specs.declared.command.Overdue.{Overdue}
use Rattle.kb_codec.specs.Senders.{is_text}
use Rattle.kb_tree.specs.Issues.{Issue}
use Rattle.kb_book.specs.Worlds.{WorldValue}
use Rattle.kb_book.specs.Books.{BookValue}
use Rattle.kb_book.specs.PaymentRows.{balance_at}
use Rattle.kb_book.specs.Inner.{is_after, may_be_paid, invoice_due}
use Rattle.kb_book.specs.Commands.{begun}
use Rattle.kb_book.specs.Steps.{accepted_over, billed_with, issue_over}
use Rattle.kb_book.specs.NextDues.{next_due}
use Rattle.kb_book.proofs.FreshKeys.{due_number, fresh-due}
use Rattle.kb_histories.specs.PaymentKeys.{IsKeyed}
use Rattle.kb_histories.specs.OwnWork.{work_left, unattempted, invoices_of}
use Rattle.kb_histories.specs.WorkAtHand.{work_at_hand}
use Rattle.kb_histories.proofs.BookWork.{rows-billed}
use Rattle.kb_histories.proofs.CountedInvoices.{unattempted-few, unattempted-more, unattempted-settled}
use Rattle.kb_histories.proofs.CountedInvoices.{unattempted-auto}
use Rattle.kb_histories.proofs.DueCases.{next_due-cases}

-- at most a transition, and the invoices of a book
pub work_at_hand-few : (today : ℕ) (book : BookValue)
    → work_at_hand today book ≤ 1 + 3 * length book.invoices.rows
work_at_hand-few today book =
    few-sum _ _ (length book.invoices.rows) (transition-few (is_after book.transition today))
    (unattempted-few book.payments today (length book.invoices.rows))
  where
    transition-few : (may : Bool) → (if may then 1 else 0) ≤ 1
    transition-few true = omega arith
    transition-few false = omega arith

    few-sum : (transition without count : ℕ) → transition ≤ 1 → without ≤ count
        → transition + 3 * without ≤ 1 + 3 * count
    few-sum transition without count few most = omega (arith, few, most)

module _ (world : WorldValue) (edited : BookValue) (today : ℕ) where
  abbrev issue : Issue
  issue = issue_over world edited first_day charged_days

  -- an edited book without a line of its own, once it is billed
  abbrev after : BookValue
  after = billed_with edited today issue []

  -- an invoice more is one more to be paid
  after-hand : work_at_hand today after + 3 * length edited.invoices.rows
      ≤ work_at_hand today edited + 3 * length after.invoices.rows
  after-hand =
      let rows : length after.invoices.rows
      ≡ length edited.invoices.rows + invoices_of (issue.lines ++ [])
      = rows-billed edited.payments edited.invoices today (issue.lines ++ []) in
      let same : unattempted edited.payments today (length after.invoices.rows)
      ≡ unattempted edited.payments today
      (length edited.invoices.rows + invoices_of (issue.lines ++ []))
      = ap (unattempted edited.payments today) rows in
      let more = unattempted-more edited.payments today (length edited.invoices.rows)
      (invoices_of (issue.lines ++ [])) in
      hand-sum (if is_after edited.transition today then 1 else 0) _ _ _ _ _ _ rows same more
    where
      hand-sum : (transition rows before issued now more was : ℕ) → rows ≡ before + issued → now ≡ more
          → more ≤ was + issued → transition + 3 * now + 3 * before ≤ transition + 3 * was + 3 * rows
      hand-sum transition rows before issued now more was parts same few = omega (arith, parts, same, few)

module _ (world : WorldValue) (book : BookValue) (today : ℕ) where
  -- the book once a command is accepted
  abbrev after_command : Command → BookValue
  after_command command = (accepted_over world book today command first_day charged_days).1

  -- a settlement adds an invoice that it issues, and no more
  pub settle-hand : (c : Settle)
      → work_at_hand today (after_command (kinds.Settle c)) + 3 * length book.invoices.rows
      ≤ work_at_hand today book + 3 * length (after_command (kinds.Settle c)).invoices.rows
  settle-hand c =
      settle-sum (if is_after book.transition today then 1 else 0) _ _ _ _ _
      (after-hand world (begun world book today (kinds.Settle c)) today)
      (unattempted-settled book.payments c.payment c.status today (length book.invoices.rows))
    where
      settle-sum : (transition new old work rows before : ℕ) → work + before ≤ transition + 3 * new + rows
          → new ≤ old → work + before ≤ transition + 3 * old + rows
      settle-sum transition new old work rows before most fewer = omega (arith, most, fewer)

  -- a transition
  overdue-hand : (c : Overdue) → is_after book.transition today ≡ true
      → work_at_hand today (after_command (kinds.Overdue c)) + 1 + 3 * length book.invoices.rows
      ≤ work_at_hand today book + 3 * length (after_command (kinds.Overdue c)).invoices.rows
  overdue-hand c may =
      let over : (if is_after (Some today) today then 1 else 0) ≡ 0 = rw (not-before today) refl in
      let came : (if is_after book.transition today then 1 else 0) ≡ 1 = rw may refl in
      overdue-sum (if is_after (Some today) today then 1 else 0)
      (if is_after book.transition today then 1 else 0) _ _ _ _
      (after-hand world (begun world book today (kinds.Overdue c)) today) over came
    where
      not-before : (day : ℕ) → nat_lt day day ≡ false
      not-before day = le-ltb day day (omega arith)

      overdue-sum : (over came old work rows before : ℕ) → work + before ≤ over + 3 * old + rows → over ≡ 0
          → came ≡ 1 → work + 1 + before ≤ came + 3 * old + rows
      overdue-sum over came old work rows before most is was = omega (arith, most, is, was)

  -- an automatic payment that is due
  auto-hand : (c : Auto) → IsKeyed book → today ≤ last_day
      → invoice_due true book.payments book.invoices today ≡ Some c.invoice
      → work_at_hand today (after_command (kinds.Auto c)) + 3 + 3 * length book.invoices.rows
      ≤ work_at_hand today book + 3 * length (after_command (kinds.Auto c)).invoices.rows
  auto-hand c keyed last due =
      let found = due_number (may_be_paid book.payments today) 1 c.invoice book.invoices.rows due in
      let free = fresh-due book.payments book.invoices today c.invoice keyed.owned keyed.invoiced keyed.few
      last due in
      let none = not-since (not (int_lt (pos 0) (open_purchases book.payments c.invoice)))
      (has_automatic_since book.payments c.invoice today) found.0 in
      let fewer = unattempted-auto book.payments c.invoice
      (amount_of (balance_at book.invoices c.invoice) None) today (length book.invoices.rows) free none
      found.1 (omega (arith, found.2)) in
      auto-sum (if is_after book.transition today then 1 else 0) _ _ _ _ _
      (after-hand world (begun world book today (kinds.Auto c)) today) fewer
    where
      not-since : (none since : Bool) → (none && not since) ≡ true → since ≡ false
      not-since none false is = refl
      not-since true true is = absurd (true≢false (sym is))
      not-since false true is = absurd (true≢false (sym is))

      auto-sum : (transition new old work rows before : ℕ) → work + before ≤ transition + 3 * new + rows
          → new + 1 ≤ old → work + 3 + before ≤ transition + 3 * old + rows
      auto-sum transition new old work rows before most fewer = omega (arith, most, fewer)

  -- a command is no text, and takes as much off as it leaves to do, except for an invoice that it issues
  pub record TakesAtHand (command : Command) : Type 0 where
    pub no_text : is_text command ≡ false
    pub less : work_at_hand today (after_command command) + work_left command
        + 3 * length book.invoices.rows
        ≤ work_at_hand today book + 3 * length (after_command command).invoices.rows

  -- so does each one that is due
  pub next_due-takes : (command : Command) → IsKeyed book → today ≤ last_day
      → next_due world book today ≡ Some command → TakesAtHand command
  next_due-takes command keyed last next =
      next_due-cases world book today TakesAtHand
      (λ may. record { no_text = refl; less = overdue-hand (record { account = book.account }) may })
      (λ invoice due. record {
        no_text = refl;
        less = auto-hand (record { account = book.account; invoice = invoice }) keyed last due;
      })
      command next
