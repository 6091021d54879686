-- The book after an accepted command, as it is put together.
use Rattle.std.proofs.Common.{◌≡◌, ℕ, zero, suc, ◌+◌, ◌*◌, ◌^◌, ◌≤◌, Bool, true, false, List, [], ◌∷◌, ◌++◌}
use Rattle.std.proofs.Common.{length, Option, Some, None, ℤ, refl, sym, ap, ◌∙◌, arith, All, nat_lt}
use Rattle.std.proofs.lemmas.Int.{ints}
use Rattle.std.proofs.lemmas.List.Elements.{All-nil, All-cons, All-head, All-tail}
use Rattle.kb_days.specs.Calendar.{first_day, charged_days}
use Rattle.kb_sharing.specs.Sums.{sum_of}
use Rattle.kb_credit.specs.declared.line.Line.{Line}
use Rattle.kb_credit.specs.Sizes.{size_of}
use Rattle.kb_credit.specs.Items.{amount_of, is_adjustment}
use Rattle.kb_credit.specs.InvoiceRows.{InvoicesValue, credit, unpaid}
use Rattle.kb_credit.specs.InvoiceEdits.{levelled, issued}
use Rattle.kb_payment.specs.PaymentSums.{PaymentsValue}
use Rattle.kb_codec.specs.declared.command.Command.{Command}
use Rattle.kb_codec.specs.declared.command.Command.TheVariants as kinds
use Rattle.kb_codec.specs.declared.action.Action.TheVariants as actions
use Rattle.kb_tree.specs.ItemLines.{IsItemLine}
use Rattle.kb_book.specs.declared.answer.Answer.{Answer}
use Rattle.kb_book.specs.declared.refusal.Refusal.TheVariants as refusal
use Rattle.kb_book.specs.Worlds.{WorldValue}
use Rattle.kb_tree.specs.Issues.{Issue}
use Rattle.kb_book.specs.Books.{BookValue, Kept, Keyed}
use Rattle.kb_book.specs.Commands.{begun, max_charge, own_rows, own_lines}
use Rattle.kb_book.specs.Rows.{first_refusal}
use Rattle.kb_book.specs.Steps.{Outcome, issue_over, with_paid, with_invoice, number_of}
use Rattle.kb_codec.specs.Senders.{key_of}
use Rattle.kb_book.specs.Steps.{keep, billed_outcome, accepted_over}
use Rattle.kb_book.proofs.PaidRows.{with_paid-moved, with_paid-none}
use Rattle.kb_book.proofs.NotedRows.{with_paid-new}
use Rattle.kb_book.proofs.InvoicedAttempts.{AreInvoiced}
use Rattle.kb_account.specs.declared.begun.Move.{Move}
use Rattle.kb_account.specs.Private.Begins.{HasMoved}
use Rattle.kb_account.specs.Private.KeptAnswers.{kept_after}
use Rattle.kb_account.specs.Private.Moves.{with_moved, with_move}

-- what is noted of payments stays with one more invoice
noted-with_invoice : (payments : PaymentsValue) (invoices : InvoicesValue) (today : ℕ) (lines : List Line)
    → with_paid payments invoices ≡ invoices → AreInvoiced (length invoices.rows) payments
    → with_paid payments (with_invoice invoices today lines) ≡ with_invoice invoices today lines
noted-with_invoice payments invoices today [] noted invoiced = noted
noted-with_invoice payments invoices today (line ∷ later) noted invoiced =
    with_paid-new payments invoices today (line ∷ later) invoiced
    ∙ ap (λ (before : InvoicesValue). issued before today (line ∷ later)) noted

-- what moves is noted
moved-noted : (old new : PaymentsValue) (invoices : InvoicesValue) (invoice : ℕ) (amount : ℤ)
    → HasMoved old new (record { invoice = invoice; amount = amount }) → with_paid old invoices ≡ invoices
    → with_paid new invoices ≡ with_moved invoice amount invoices
moved-noted old new invoices zero amount moved noted = with_paid-none old new invoices amount moved.by noted
moved-noted old new invoices (suc place) amount moved noted =
    with_paid-moved old new invoices (suc place) amount moved.by (omega arith) noted

-- also with one more invoice
move-noted : (old new : PaymentsValue) (invoices : InvoicesValue) (today : ℕ) (lines : List Line)
    (moved : Move)
    → HasMoved old new moved → with_paid old invoices ≡ invoices → AreInvoiced (length invoices.rows) old
    → with_paid new (with_invoice invoices today lines) ≡ with_move moved (with_invoice invoices today lines)
move-noted old new invoices today lines moved has noted invoiced =
    moved-noted old new (with_invoice invoices today lines) moved.invoice moved.amount has
    (noted-with_invoice old invoices today lines noted invoiced)

-- an answer is kept among the others
keep-kept : (command : Command) (key : Option (List ℕ)) (outcome : Outcome)
    → keep command key outcome
    ≡ (outcome.0, record outcome.1 { kept = kept_after outcome.1.kept command outcome.0 key })
keep-kept command None outcome = refl
keep-kept command (Some key) outcome = refl

-- the answer and the book that an accepted command gives
next-is : (world : WorldValue) (book edited : BookValue) (today : ℕ) (command : Command) (issue : Issue)
    (lines : List Line)
    (invoices : InvoicesValue) (answer : Answer) (kept : Keyed Kept)
    → edited ≡ begun world book today command
    → issue ≡ issue_over world edited first_day charged_days
    → lines ≡ issue.lines ++ own_lines command
    → invoices ≡ levelled (with_paid edited.payments (with_invoice edited.invoices today lines))
    → answer
    ≡ record {
      command = edited.commands + 1;
      invoice = number_of edited.invoices lines;
      total = sum_of amount_of lines;
      credit = credit invoices.rows;
      unpaid = unpaid invoices.rows;
    }
    → kept ≡ kept_after edited.kept command answer (key_of command)
    → accepted_over world book today command first_day charged_days
    ≡ (
      answer,
      record edited {
        invoices = invoices;
        charges = issue.charges;
        commands = edited.commands + 1;
        kept =
            kept;
      },
    )
next-is world book edited today command issue lines invoices answer kept edit made all after told holds =
    ap (λ (b : BookValue). keep command (key_of command)
    (billed_outcome b today (issue_over world b first_day charged_days) (own_lines command)))
    (sym edit)
    ∙ ap (λ (i : Issue). keep command (key_of command) (billed_outcome edited today i (own_lines command)))
    (sym made)
    ∙ ap (λ (l : List Line). keep command (key_of command) (outcome_of l)) (sym all)
    ∙ ap (λ (i : InvoicesValue). keep command (key_of command) (outcome_with i)) (sym after)
    ∙ keep-kept command (key_of command) (outcome_with invoices)
    ∙ ap (λ (a : Answer). outcome_kept a (kept_after edited.kept command a (key_of command))) (sym told)
    ∙ ap (outcome_kept answer) (sym holds)
  where
    answer_of : List Line → InvoicesValue → Answer
    answer_of l i = record {
      command = edited.commands + 1;
      invoice = number_of edited.invoices l;
      total = sum_of amount_of l;
      credit = credit i.rows;
      unpaid = unpaid i.rows;
    }

    outcome_for : List Line → InvoicesValue → Outcome
    outcome_for l i = (
      answer_of l i,
      record edited {
        invoices = i;
        charges = issue.charges;
        commands =
            edited.commands + 1;
      },
    )

    outcome_of : List Line → Outcome
    outcome_of l = outcome_for l (levelled (with_paid edited.payments (with_invoice edited.invoices today l)))

    outcome_with : InvoicesValue → Outcome
    outcome_with i = outcome_for lines i

    outcome_kept : Answer → Keyed Kept → Outcome
    outcome_kept a k = (
      a,
      record edited {
        invoices = invoices;
        charges = issue.charges;
        commands = edited.commands + 1;
        kept =
            k;
      },
    )

-- where what is paid moved on one invoice
pub next-made : (world : WorldValue) (book edited next : BookValue) (today : ℕ) (command : Command)
    (issue : Issue)
    (lines : List Line) (moved : Move) (invoices : InvoicesValue) (answer : Answer) (kept : Keyed Kept)
    → with_paid book.payments edited.invoices ≡ edited.invoices
    → AreInvoiced (length edited.invoices.rows) book.payments
    → edited ≡ begun world book today command → HasMoved book.payments edited.payments moved
    → issue ≡ issue_over world edited first_day charged_days → lines ≡ issue.lines ++ own_lines command
    → invoices ≡ levelled (with_move moved (with_invoice edited.invoices today lines))
    → answer
    ≡ record {
      command = edited.commands + 1;
      invoice = number_of edited.invoices lines;
      total = sum_of amount_of lines;
      credit = credit invoices.rows;
      unpaid = unpaid invoices.rows;
    }
    → kept ≡ kept_after edited.kept command answer (key_of command)
    → next ≡ record edited {
      invoices = invoices;
      charges = issue.charges;
      commands =
          edited.commands + 1;
      kept = kept;
    }
    → accepted_over world book today command first_day charged_days ≡ (answer, next)
next-made world book edited next today command issue lines moved invoices answer kept noted invoiced edit has
    made all after
    told holds is =
    next-is world book edited today command issue lines invoices answer kept edit made all
    (after ∙ ap (λ (i : InvoicesValue). levelled i)
    (sym (move-noted book.payments edited.payments edited.invoices today lines moved has noted invoiced)))
    told holds
    ∙ ap (λ (b : BookValue). (answer, b)) (sym is)

-- lines of items come to no more than as many times the greatest price
pub lines-size : (lines : List Line) → All IsItemLine lines → size_of amount_of lines ≤ 10 ^ 9 * length lines
lines-size [] plain = omega arith
lines-size (line ∷ later) plain =
    let here = All-head IsItemLine line later plain in
    let rest = lines-size later (All-tail IsItemLine line later plain) in
    omega (arith, here.1, rest)

-- they are no adjustments
pub lines-plain : (lines : List Line) → All IsItemLine lines → All (λ line. is_adjustment line ≡ false) lines
lines-plain [] plain = All-nil (λ line. is_adjustment line ≡ false)
lines-plain (line ∷ later) plain =
    All-cons (λ line. is_adjustment line ≡ false) line later (All-head IsItemLine line later plain).0
    (lines-plain later (All-tail IsItemLine line later plain))

-- the line of a charge or a credit that isn't refused is one of an item
allowed-small : (amount : ℕ) → first_refusal ((nat_lt max_charge amount, refusal.AmountTooLarge) ∷ []) ≡ None
    → amount ≤ 10 ^ 9
allowed-small amount none = by_test (nat_lt max_charge amount) refl
  where
    by_test : (above : Bool) → nat_lt max_charge amount ≡ above → amount ≤ 10 ^ 9
    by_test true above = absurd (let told = rw above at none in cc)
    by_test false above = grind arith

pub own-plain : (world : WorldValue) (book : BookValue) (today : ℕ) (command : Command)
    → first_refusal (own_rows world book today command) ≡ None → All IsItemLine (own_lines command)
own-plain world book today (kinds.Act account key (actions.Charge c)) none =
    let low = allowed-small c.amount none in
    All-cons IsItemLine _ [] (refl, omega (arith, low)) (All-nil IsItemLine)
own-plain world book today (kinds.Act account key (actions.Credit c)) none =
    let low = allowed-small c.amount none in
    All-cons IsItemLine _ [] (refl, omega (arith, ints, low)) (All-nil IsItemLine)
own-plain world book today command none = All-nil IsItemLine
