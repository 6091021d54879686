-- The work that a book may yet ask for by itself, once a command of the platform's own is accepted.
use Rattle.std.proofs.Common.{◌≡◌, ℕ, ◌+◌, ◌*◌, ◌≤◌, Bool, true, false, not, ◌&&◌, int_lt, pos, List, [], ◌∷◌}
use Rattle.std.proofs.Common.{◌++◌, length, Option, Some, None, if◌then◌else◌, refl, sym, ap, subst, ◌∙◌}
use Rattle.std.proofs.Common.{arith, length-append, true≢false, nat_lt}
use Rattle.std.proofs.lemmas.Bool.{le-ltb}
use Rattle.std.proofs.lemmas.List.{append-nil}
use Rattle.std.proofs.lemmas.Option.{none-some}
use Rattle.kb_days.specs.Calendar.{last_day, first_day, charged_days}
use Rattle.kb_credit.specs.declared.line.Line.{Line}
use Rattle.kb_credit.specs.InvoiceRows.{InvoicesValue}
use Rattle.kb_payment.specs.PaymentSums.{PaymentsValue, has_automatic_since, open_purchases}
use Rattle.kb_payment.specs.PaymentEdits.{amount_of}
use Rattle.kb_codec.specs.declared.command.Command.{Command}
use Rattle.kb_codec.specs.declared.command.Command.TheVariants as kinds
use Rattle.kb_codec.specs.declared.command.Auto.{Auto}
use Rattle.kb_codec.specs.declared.command.Settle.{Settle}
use Rattle.kb_codec.specs.declared.command.Overdue.{Overdue}
use Rattle.kb_book.specs.Worlds.{WorldValue}
use Rattle.kb_tree.specs.Issues.{Issue}
use Rattle.kb_book.specs.Books.{BookValue}
use Rattle.kb_book.specs.Dues.{facts_of}
use Rattle.kb_book.specs.BlockCommands.{has_all_states}
use Rattle.kb_book.specs.PaymentRows.{balance_at}
use Rattle.kb_book.specs.Inner.{is_after, is_transition_due, may_be_paid, invoice_due}
use Rattle.kb_book.specs.Inner.{same_name, state_name, state_of}
use Rattle.kb_book.specs.Commands.{begun}
use Rattle.kb_book.specs.Steps.{accepted_over, billed_with, issue_over, with_invoice, with_paid}
use Rattle.kb_book.specs.NextDues.{transition_of, payment_of, next_due}
use Rattle.kb_book.proofs.BegunBooks.{IsEdited, begun-edited}
use Rattle.kb_book.proofs.BilledRows.{billed_rows}
use Rattle.kb_book.proofs.FreshKeys.{due_number, fresh-due}
use Rattle.kb_book.proofs.KeptTotals.{length-levelled, length-with_paid}
use Rattle.kb_codec.specs.Senders.{is_text}
use Rattle.kb_histories.specs.PaymentKeys.{IsKeyed}
use Rattle.kb_histories.specs.OwnWork.{work_left, transition_work, unattempted, invoices_of, invoices_due}
use Rattle.kb_histories.specs.OwnWork.{own_work}
use Rattle.kb_histories.specs.BilledMachines.{WasBilled}
use Rattle.kb_book.proofs.NothingDue.{none-issued}
use Rattle.kb_histories.proofs.BilledBooks.{after-charged}
use Rattle.kb_histories.proofs.CountedInvoices.{unattempted-more, unattempted-settled, unattempted-auto}

-- lines make one invoice at most
pub invoices_of-few : (lines : List Line) → invoices_of lines ≤ 1
invoices_of-few [] = omega arith
invoices_of-few (line ∷ later) = omega arith

-- there are as many more as they make
rows-with_invoice : (invoices : InvoicesValue) (today : ℕ) (lines : List Line)
    → length (with_invoice invoices today lines).rows ≡ length invoices.rows + invoices_of lines
rows-with_invoice invoices today [] = omega arith
rows-with_invoice invoices today (line ∷ later) = length-append invoices.rows _

pub rows-billed : (payments : PaymentsValue) (invoices : InvoicesValue) (today : ℕ) (lines : List Line)
    → length (billed_rows payments invoices today lines).rows ≡ length invoices.rows + invoices_of lines
rows-billed payments invoices today lines =
    length-levelled (with_paid payments (with_invoice invoices today lines))
    ∙ length-with_paid payments (with_invoice invoices today lines)
    ∙ rows-with_invoice invoices today lines

module _ (world : WorldValue) (book edited : BookValue) (today : ℕ) (was : WasBilled book)
    (edit : IsEdited book edited []) where
  abbrev issue : Issue
  issue = issue_over world edited first_day charged_days

  -- an edited book without a line of its own, once it is billed
  abbrev after : BookValue
  after = billed_with edited today issue []

  -- it has no invoice that is yet to be issued
  after-none : invoices_due world after ≡ 0
  after-none =
      ap invoices_of
      (ap (λ (issue : Issue). issue.lines)
      (none-issued (facts_of world after) after.billed (length after.invoices.items + 1) 0 after.charges
      (after-charged world book edited [] today was edit)))

  -- but at most the one that was
  after-work : own_work world today after
      ≤ transition_work edited.transition today
      + 3 * (unattempted edited.payments today (length edited.invoices.rows) + invoices_of issue.lines)
  after-work =
      let lines : invoices_of (issue.lines ++ []) ≡ invoices_of issue.lines =
      ap invoices_of (append-nil issue.lines) in
      let rows : length after.invoices.rows ≡ length edited.invoices.rows + invoices_of issue.lines =
      rows-billed edited.payments edited.invoices today (issue.lines ++ [])
      ∙ ap (λ more. length edited.invoices.rows + more) lines in
      let same : unattempted edited.payments today (length after.invoices.rows)
      ≡ unattempted edited.payments today (length edited.invoices.rows + invoices_of issue.lines) =
      ap (unattempted edited.payments today) rows in
      let more = unattempted-more edited.payments today (length edited.invoices.rows)
      (invoices_of issue.lines) in
      work-sum (transition_work edited.transition today) _ _ _ _ _ same more after-none
    where
      work-sum : (transition were are_more are now next : ℕ) → are ≡ are_more → are_more ≤ were + now
          → next ≡ 0 → transition + 3 * (are + next) ≤ transition + 3 * (were + now)
      work-sum transition were are_more are now next same more none = omega (arith, same, more, none)

module _ (world : WorldValue) (book : BookValue) (today : ℕ) (was : WasBilled book) where
  -- the book once a command is accepted
  abbrev after_command : Command → BookValue
  after_command command = (accepted_over world book today command first_day charged_days).1

  -- a settlement adds no work
  pub settle-work : (c : Settle)
      → own_work world today (after_command (kinds.Settle c)) ≤ own_work world today book
  settle-work c =
      let edited : BookValue = begun world book today (kinds.Settle c) in
      let most = after-work world book edited today was (begun-edited world book today (kinds.Settle c)) in
      let fewer = unattempted-settled book.payments c.payment c.status today (length book.invoices.rows) in
      settle-sum (transition_work book.transition today) _ _ _ _ most fewer
    where
      settle-sum : (transition new old now work : ℕ) → work ≤ transition + 3 * (new + now) → new ≤ old
          → work ≤ transition + 3 * (old + now)
      settle-sum transition new old now work most fewer = omega (arith, most, fewer)

  -- a transition that is due
  overdue-work : (c : Overdue) → is_after book.transition today ≡ true
      → own_work world today (after_command (kinds.Overdue c)) + 1 ≤ own_work world today book
  overdue-work c due =
      let edited : BookValue = begun world book today (kinds.Overdue c) in
      let most = after-work world book edited today was (begun-edited world book today (kinds.Overdue c)) in
      let few = invoices_of-few (issue_over world edited first_day charged_days).lines in
      let over : transition_work (Some today) today ≡ 0 = rw (not-before today) refl in
      let came : transition_work book.transition today ≡ 4 = rw due refl in
      overdue-sum (transition_work (Some today) today) (transition_work book.transition today) _ _ _ _ most
      few over came
    where
      not-before : (day : ℕ) → nat_lt day day ≡ false
      not-before day = le-ltb day day (omega arith)

      overdue-sum : (over came old new now work : ℕ) → work ≤ over + 3 * (old + new) → new ≤ 1 → over ≡ 0
          → came ≡ 4 → work + 1 ≤ came + 3 * (old + now)
      overdue-sum over came old new now work most few is was = omega (arith, most, few, is, was)

  -- an automatic payment that is due
  auto-work : (c : Auto) → IsKeyed book → today ≤ last_day
      → invoice_due true book.payments book.invoices today ≡ Some c.invoice
      → own_work world today (after_command (kinds.Auto c)) + 3 ≤ own_work world today book
  auto-work c keyed last due =
      let edited : BookValue = begun world book today (kinds.Auto c) in
      let most = after-work world book edited today was (begun-edited world book today (kinds.Auto c)) in
      let found = due_number (may_be_paid book.payments today) 1 c.invoice book.invoices.rows due in
      let free = fresh-due book.payments book.invoices today c.invoice keyed.owned keyed.invoiced keyed.few
      last due in
      let none = not-since (not (int_lt (pos 0) (open_purchases book.payments c.invoice)))
      (has_automatic_since book.payments c.invoice today) found.0 in
      let fewer = unattempted-auto book.payments c.invoice
      (amount_of (balance_at book.invoices c.invoice) None) today (length book.invoices.rows) free none
      found.1 (omega (arith, found.2)) in
      auto-sum (transition_work book.transition today) _ _ _ _ most fewer
    where
      not-since : (none since : Bool) → (none && not since) ≡ true → since ≡ false
      not-since none false is = refl
      not-since true true is = absurd (true≢false (sym is))
      not-since false true is = absurd (true≢false (sym is))

      auto-sum : (transition new old now work : ℕ) → work ≤ transition + 3 * (new + now) → new + 1 ≤ old
          → work + 3 ≤ transition + 3 * (old + now)
      auto-sum transition new old now work most fewer = omega (arith, most, fewer)

  -- a command is no text, and takes as much work off as it leaves to do
  pub record TakesWork (command : Command) : Type 0 where
    pub no_text : is_text command ≡ false
    pub less : own_work world today (after_command command) + work_left command ≤ own_work world today book

  -- so is each one that is due
  pub next_due-takes : (command : Command) → IsKeyed book → today ≤ last_day
      → next_due world book today ≡ Some command → TakesWork command
  next_due-takes command keyed last next =
      by_due (is_transition_due world.states book.invoices book.transition book.overdue today) refl next
    where
      transition-takes : (full : Bool) → is_after book.transition today ≡ true
          → (if full then None else Some (kinds.Overdue (record { account = book.account }))) ≡ Some command
          → TakesWork command
      transition-takes true due is = absurd (none-some command is)
      transition-takes false due is =
          let same : kinds.Overdue (record { account = book.account }) ≡ command = cc in
          subst TakesWork same
          (record { no_text = refl; less = overdue-work (record { account = book.account }) due })

      payment-takes : (autopay : Bool) (found : Option ℕ)
          → invoice_due autopay book.payments book.invoices today ≡ found
          → payment_of book.account found ≡ Some command → TakesWork command
      payment-takes autopay None due is = absurd (none-some command is)
      payment-takes false (Some invoice) due is = absurd (cc)
      payment-takes true (Some invoice) due is =
          let same : kinds.Auto (record { account = book.account; invoice = invoice }) ≡ command = cc in
          subst TakesWork same (record {
            no_text = refl;
            less = auto-work (record { account = book.account; invoice = invoice }) keyed last due;
          })

      came : (after_last other : Bool) → (after_last && other) ≡ true → after_last ≡ true
      came true other is = refl
      came false other is = absurd (true≢false (sym is))

      by_due : (due : Bool)
          → is_transition_due world.states book.invoices book.transition book.overdue today ≡ due
          → (if due then transition_of book.account book.blocks
          else payment_of book.account (invoice_due book.autopay book.payments book.invoices today))
          ≡ Some command
          → TakesWork command
      by_due true due is =
          transition-takes (has_all_states book.blocks)
          (came (is_after book.transition today)
          (not (same_name (state_name (state_of world.states book.invoices today)) book.overdue)) due)
          is
      by_due false due is =
          payment-takes book.autopay (invoice_due book.autopay book.payments book.invoices today) refl is
