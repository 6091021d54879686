-- Items are only added to invoices over each history.
use Rattle.std.proofs.Common.{◌≡◌, ℕ, ◌+◌, ◌≤◌, List, [], ◌∷◌, ◌++◌, length, map, Option, None, Some, ℤ, pos}
use Rattle.std.proofs.Common.{◌-ℤ◌, refl, ap, sym, subst, ◌∙◌, append_assoc, append-nil, arith}
use Rattle.std.specs.List.{fold}
use Rattle.std.specs.FinMap.{find}
use Rattle.std.proofs.lemmas.List.{map-append}
use Rattle.kb_days.specs.Calendar.{first_day, charged_days}
use Rattle.kb_sharing.specs.Keys.{by_words}
use Rattle.kb_sharing.specs.Sums.{sum_of}
use Rattle.kb_credit.specs.declared.invoice.Invoice.{Invoice}
use Rattle.kb_credit.specs.declared.line.Line.{Line}
use Rattle.kb_credit.specs.declared.row.Row.{Row}
use Rattle.kb_credit.specs.Items.{amount_of}
use Rattle.kb_credit.specs.InvoiceRows.{InvoicesValue, invoice_of, credit}
use Rattle.kb_credit.specs.Levelling.{with_made, used_on, with_used, levelled_rows}
use Rattle.kb_payment.specs.PaymentSums.{PaymentsValue}
use Rattle.kb_codec.specs.declared.command.Command.{Command}
use Rattle.kb_book.specs.Worlds.{WorldValue}
use Rattle.kb_tree.specs.Issues.{Issue}
use Rattle.kb_book.specs.Books.{BookValue}
use Rattle.kb_book.specs.Commands.{begun, own_lines}
use Rattle.kb_book.specs.Steps.{keep, accepted_over, billed_outcome, issue_over, with_invoice, paid_from}
use Rattle.kb_book.specs.AddedItems.{GoOn}
use Rattle.kb_book.proofs.BegunBooks.{begun-edited}
use Rattle.kb_book.proofs.BilledRows.{billed_rows, billed_rows-items}
use Rattle.kb_book.proofs.KeptTotals.{billed_rows-few}
use Rattle.kb_account.specs.Prepares.{opening_book}
use Rattle.kb_codec.specs.Entries.{History}
use Rattle.kb_codec.specs.Senders.{account_of, key_of}
use Rattle.kb_machine.specs.Judged.{after_judged}
use Rattle.kb_machine.specs.Machines.{MachineValue, no_machine, book_of, with_book, opening}
use Rattle.kb_machine.specs.Histories.{entry_after, replay}
use Rattle.kb_histories.proofs.FoundEntries.{found-put}
use Rattle.kb_histories.proofs.JudgedCases.{judged-cases, accepted_on}
use Rattle.kb_histories.specs.OnlyAdded.{invoices_of, invoice_count, BookGoesOn, BooksGoOn, CommandsOnlyAdd}
use Rattle.kb_histories.specs.OnlyAdded.{HistoriesOnlyAdd, CommandsIssueOne}

-- levelling changes no day and no total
invoices_of-with_made : (rows : List Row) → invoices_of (map with_made rows) ≡ invoices_of rows
invoices_of-with_made [] = refl
invoices_of-with_made (row ∷ rows) =
    ap (λ (later : List Invoice). invoice_of row ∷ later) (invoices_of-with_made rows)

invoices_of-with_used : (left : ℤ) (rows : List Row) → invoices_of (with_used left rows) ≡ invoices_of rows
invoices_of-with_used left [] = refl
invoices_of-with_used left (row ∷ rows) =
    ap (λ (later : List Invoice). invoice_of row ∷ later)
    (invoices_of-with_used (left -ℤ used_on left row) rows)

invoices_of-levelled : (rows : List Row) → invoices_of (levelled_rows rows) ≡ invoices_of rows
invoices_of-levelled rows =
    invoices_of-with_used (credit (map with_made rows)) (map with_made rows) ∙ invoices_of-with_made rows

-- nor does noting what is paid
invoices_of-paid : (payments : PaymentsValue) (number : ℕ) (rows : List Row)
    → invoices_of (paid_from payments number rows) ≡ invoices_of rows
invoices_of-paid payments number [] = refl
invoices_of-paid payments number (row ∷ rows) =
    ap (λ (later : List Invoice). invoice_of row ∷ later) (invoices_of-paid payments (number + 1) rows)

-- an invoice is put behind the others
invoices_of-issued : (invoices : InvoicesValue) (today : ℕ) (lines : List Line)
    → (more : List Invoice)
    × (invoices_of (with_invoice invoices today lines).rows ≡ invoices_of invoices.rows ++ more)
invoices_of-issued invoices today [] = ([], sym (append-nil (invoices_of invoices.rows)))
invoices_of-issued invoices today (line ∷ later) =
    let total = sum_of amount_of (line ∷ later) in (
      record { day = today; total = total } ∷ [],
      map-append invoice_of invoices.rows
          (record { day = today; total = total; adjusted = pos 0; paid = pos 0 } ∷ []),
    )

-- so invoices go on once all is billed
invoices_of-billed : (payments : PaymentsValue) (invoices : InvoicesValue) (today : ℕ) (lines : List Line)
    → (more : List Invoice)
    × (invoices_of (billed_rows payments invoices today lines).rows ≡ invoices_of invoices.rows ++ more)
invoices_of-billed payments invoices today lines =
    let issued = invoices_of-issued invoices today lines in
    let rows = (with_invoice invoices today lines).rows in (
      issued.0,
      invoices_of-levelled (paid_from payments 1 rows) ∙ invoices_of-paid payments 1 rows ∙ issued.1,
    )

-- a book goes on to itself
goes-nowhere : (book : BookValue) → BookGoesOn book book
goes-nowhere book = record {
  items = ([], sym (append-nil book.invoices.items));
  more = [];
  rows = sym (append-nil (invoices_of book.invoices.rows));
}

-- and from one that it went on to, further
goes-further : (one two three : BookValue) → BookGoesOn one two → BookGoesOn two three → BookGoesOn one three
goes-further one two three first second = record {
  items = (
    first.items.0 ++ second.items.0,
    second.items.1 ∙ ap (λ items. items ++ second.items.0) first.items.1
        ∙ append_assoc one.invoices.items first.items.0 second.items.0,
  );
  more = first.more ++ second.more;
  rows =
      second.rows ∙ ap (λ (rows : List Invoice). rows ++ second.more) first.rows
      ∙ append_assoc (invoices_of one.invoices.rows) first.more second.more;
}

-- so do all books
all-nowhere : (machine : MachineValue) → BooksGoOn machine machine
all-nowhere machine account book there = (book, there, goes-nowhere book)

all-further : (one two three : MachineValue) → BooksGoOn one two → BooksGoOn two three → BooksGoOn one three
all-further one two three first second account book there =
    let found = first account book there in
    let next = second account found.0 found.1 in
    (next.0, next.1, goes-further book found.0 next.0 found.2 next.2)

-- a book goes on over an accepted command, and has at most one invoice more
pub goes-accepted : (world : WorldValue) (book : BookValue) (today : ℕ) (command : Command)
    → BookGoesOn book (accepted_over world book today command first_day charged_days).1
goes-accepted world book today command =
    by_key (key_of command)
  where
    edited : BookValue
    edited = begun world book today command

    issue : Issue
    issue = issue_over world edited first_day charged_days

    lines : List Line
    lines = issue.lines ++ own_lines command

    same : edited.invoices ≡ book.invoices
    same = (begun-edited world book today command).invoices

    added : GoOn edited (billed_outcome edited today issue (own_lines command)).1
    added = billed_rows-items edited.payments edited.invoices today lines

    rows : (more : List Invoice)
        × (invoices_of (billed_rows edited.payments edited.invoices today lines).rows
        ≡ invoices_of edited.invoices.rows ++ more)
    rows = invoices_of-billed edited.payments edited.invoices today lines

    by_key : (key : Option (List ℕ))
        → BookGoesOn book (keep command key (billed_outcome edited today issue (own_lines command))).1
    by_key None = record {
      items = (added.0, added.1 ∙ ap (λ (invoices : InvoicesValue). invoices.items ++ added.0) same);
      more = rows.0;
      rows = rows.1 ∙ ap (λ (invoices : InvoicesValue). invoices_of invoices.rows ++ rows.0) same;
    }
    by_key (Some key) = record {
      items = (added.0, added.1 ∙ ap (λ (invoices : InvoicesValue). invoices.items ++ added.0) same);
      more = rows.0;
      rows = rows.1 ∙ ap (λ (invoices : InvoicesValue). invoices_of invoices.rows ++ rows.0) same;
    }

few-accepted : (world : WorldValue) (book : BookValue) (today : ℕ) (command : Command)
    → length (accepted_over world book today command first_day charged_days).1.invoices.rows
    ≤ length book.invoices.rows + 1
few-accepted world book today command =
    by_key (key_of command)
  where
    edited : BookValue
    edited = begun world book today command

    issue : Issue
    issue = issue_over world edited first_day charged_days

    few : length (billed_outcome edited today issue (own_lines command)).1.invoices.rows
        ≤ length book.invoices.rows + 1
    few =
        let most = billed_rows-few edited.payments edited.invoices today (issue.lines ++ own_lines command) in
        let same = ap (λ (invoices : InvoicesValue). length invoices.rows)
        (begun-edited world book today command).invoices in
        omega (arith, most.1, same)

    by_key : (key : Option (List ℕ))
        → length (keep command key (billed_outcome edited today issue (own_lines command))).1.invoices.rows
        ≤ length book.invoices.rows + 1
    by_key None = few
    by_key (Some key) = few

-- one more book, where there was none, or one that goes on to it
goes-put : (machine : MachineValue) (own : List ℕ) (value : BookValue)
    → ((book : BookValue) → book_of machine own ≡ Some book → BookGoesOn book value)
    → BooksGoOn machine (with_book machine own value)
goes-put machine own value goes account book there =
    found-put account own value machine.books
    (λ found. (next : BookValue) × (found ≡ Some next) × BookGoesOn book next)
    (λ other. (book, there, goes-nowhere book))
    (λ same. (value, refl, goes book (ap (λ name. find by_words name machine.books) (sym same) ∙ there)))

few-put : (machine : MachineValue) (own : List ℕ) (value : BookValue)
    → length value.invoices.rows ≤ invoice_count (book_of machine own) + 1 → (account : List ℕ)
    → invoice_count (book_of (with_book machine own value) account)
    ≤ invoice_count (book_of machine account) + 1
few-put machine own value few account =
    found-put account own value machine.books
    (λ found. invoice_count found ≤ invoice_count (book_of machine account) + 1) (λ other. omega arith)
    (λ same. subst (λ name. length value.invoices.rows ≤ invoice_count (book_of machine name) + 1) (sym same)
    few)

-- each command leaves them so
pub commands_only_add : CommandsOnlyAdd
commands_only_add machine today command =
    judged-cases machine today (λ comes. BooksGoOn machine (after_judged machine comes))
    (λ reply. all-nowhere machine) (λ refusal. all-nowhere machine) command
    (λ text reply texts. all-nowhere machine)
    (λ name request c opens none.
    goes-put machine (account_of command)
    (accepted_on machine today (opening name request c) (opening_book (opening name request c))).1
    (λ book there. absurd (let e : None ≡ Some book = sym none ∙ there in cc)))
    (λ book there none.
    goes-put machine (account_of command) (accepted_on machine today command book).1
    (λ other also. let one : book ≡ other = (let e : Some book ≡ Some other = sym there ∙ also in cc) in
    subst (λ (one : BookValue). BookGoesOn one (accepted_on machine today command book).1) one
    (goes-accepted machine.texts.world book today command)))

-- and issues at most one invoice
pub commands_issue_one : CommandsIssueOne
commands_issue_one machine today command account =
    judged-cases machine today
    (λ comes. invoice_count (book_of (after_judged machine comes) account)
    ≤ invoice_count (book_of machine account) + 1)
    (λ reply. omega arith) (λ refusal. omega arith) command (λ text reply texts. omega arith)
    (λ name request c opens none.
    few-put machine (account_of command)
    (accepted_on machine today (opening name request c) (opening_book (opening name request c))).1
    (rw none (few-accepted machine.texts.world (opening_book (opening name request c)) today
    (opening name request c))) account)
    (λ book there none.
    few-put machine (account_of command) (accepted_on machine today command book).1
    (rw there (few-accepted machine.texts.world book today command)) account)

-- so does each part of a history
goes-after : (later : History) (machine : MachineValue) → BooksGoOn machine (fold entry_after machine later)
goes-after [] machine = all-nowhere machine
goes-after (entry ∷ later) machine =
    all-further machine (entry_after machine entry) (fold entry_after (entry_after machine entry) later)
    (commands_only_add machine entry.0 entry.1) (goes-after later (entry_after machine entry))

-- and what comes after another
goes-behind : (history more : History) (machine : MachineValue)
    → BooksGoOn (fold entry_after machine history) (fold entry_after machine (history ++ more))
goes-behind [] more machine = goes-after more machine
goes-behind (entry ∷ history) more machine = goes-behind history more (entry_after machine entry)

pub histories_only_add : HistoriesOnlyAdd
unfolding replay
histories_only_add history more = goes-behind history more no_machine
