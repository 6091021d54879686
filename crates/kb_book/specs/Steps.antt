-- What a command makes of an account: its refusal, or its answer and the new book.
use Rattle.std.specs.Prelude.{ℕ, ◌+◌, Bool, false, nat_le, List, [], ◌∷◌, ◌++◌, length, bytes_eq, Option}
use Rattle.std.specs.Prelude.{Some, None, Result, Ok, Err, if◌then◌else◌}
use Rattle.std.specs.FinMap.{find, put}
use Rattle.kb_sharing.specs.Keys.{by_words}
use Rattle.kb_days.specs.Calendar.{first_day, charged_days}
use Rattle.kb_sharing.specs.Sums.{sum_of}
use Rattle.kb_credit.specs.declared.line.Line.{Line}
use Rattle.kb_credit.specs.declared.row.Row.{Row}
use Rattle.kb_credit.specs.Items.{amount_of}
use Rattle.kb_credit.specs.InvoiceRows.{InvoicesValue, credit, unpaid}
use Rattle.kb_credit.specs.InvoiceEdits.{issued, levelled}
use Rattle.kb_payment.specs.PaymentSums.{PaymentsValue, paid_on}
use Rattle.kb_codec.specs.declared.command.Command.{Command}
use Rattle.kb_codec.specs.CommandBytes.{spelling}
use Rattle.kb_codec.specs.Senders.{key_of}
use Rattle.kb_book.specs.declared.answer.Answer.{Answer}
use Rattle.kb_book.specs.declared.refusal.Refusal.{Refusal}
use Rattle.kb_book.specs.declared.refusal.Refusal.TheVariants as refusal
use Rattle.kb_book.specs.Worlds.{WorldValue}
use Rattle.kb_book.specs.Books.{BookValue, Kept}
use Rattle.kb_tree.specs.Issues.{Issue, issue_from}
use Rattle.kb_book.specs.Dues.{facts_of}
use Rattle.kb_book.specs.Commands.{begun, own_rows, own_lines, max_commands}
use Rattle.kb_book.specs.Rows.{Rows, first_refusal, limit}

-- what is kept of the key of a command, if it was used
abbrev pub kept_of : BookValue → Option (List ℕ) → Option Kept
kept_of book None = None
kept_of book (Some key) = find by_words key book.kept

-- an account has as many commands of callers as it may have
abbrev pub has_all_commands : BookValue → Option (List ℕ) → Bool
has_all_commands book None = false
has_all_commands book (Some key) = nat_le max_commands (length book.kept)

-- the new items of a book over a number of days from one on; their numbers go on from those of all items
abbrev pub issue_over : WorldValue → BookValue → ℕ → ℕ → Issue
issue_over world book day count =
    issue_from (facts_of world book) book.billed day count (length book.invoices.items + 1) 0 book.charges

-- an invoice of today with these lines, if there are any
abbrev pub with_invoice : InvoicesValue → ℕ → List Line → InvoicesValue
with_invoice invoices today [] = invoices
with_invoice invoices today (line ∷ later) = issued invoices today (line ∷ later)

-- the number of that invoice, if there is one
abbrev pub number_of : InvoicesValue → List Line → Option ℕ
number_of invoices [] = None
number_of invoices (line ∷ later) = Some (length invoices.rows + 1)

-- rows that are numbered from one on, with what is paid on them
abbrev pub paid_from : PaymentsValue → ℕ → List Row → List Row
paid_from payments number [] = []
paid_from payments number (row ∷ rows) =
    record row { paid = paid_on payments number } ∷ paid_from payments (number + 1) rows

abbrev pub with_paid : PaymentsValue → InvoicesValue → InvoicesValue
with_paid payments invoices = record invoices { rows = paid_from payments 1 invoices.rows }

-- the book once its new items are issued, what is paid is noted, and its invoices are levelled
abbrev pub billed_with : BookValue → ℕ → Issue → List Line → BookValue
billed_with book today issue own = record book {
  invoices = levelled (with_paid book.payments (with_invoice book.invoices today (issue.lines ++ own)));
  charges = issue.charges;
  commands = book.commands + 1;
}

-- what is told of that
abbrev pub answer_with : BookValue → BookValue → List Line → Answer
answer_with before after lines = record {
  command = after.commands;
  invoice = number_of before.invoices lines;
  total = sum_of amount_of lines;
  credit = credit after.invoices.rows;
  unpaid = unpaid after.invoices.rows;
}

-- an answer, and the book after it
abbrev pub Outcome : Type 0
Outcome = Answer × BookValue

-- the answer is kept under the command's key, if it has one
abbrev pub keep : Command → Option (List ℕ) → Outcome → Outcome
keep command None outcome = outcome
keep command (Some key) outcome = (
  outcome.0,
  record outcome.1 {
    kept = put by_words key (record { spelling = spelling command; answer = outcome.0 }) outcome.1.kept;
  },
)

-- what an accepted command makes of a book with its own edit
abbrev pub billed_outcome : BookValue → ℕ → Issue → List Line → Outcome
billed_outcome book today issue own = (
  answer_with book (billed_with book today issue own) (issue.lines ++ own),
  billed_with book today issue own,
)

-- the answer to an accepted command, and the new book: what is due is looked at over a number of days from
-- one on
abbrev pub accepted_over : WorldValue → BookValue → ℕ → Command → ℕ → ℕ → Outcome
accepted_over world book today command day count =
    keep command (key_of command) (of_book (begun world book today command))
  where
    of_book : BookValue → Outcome
    of_book begun = billed_outcome begun today (issue_over world begun day count) (own_lines command)

-- the refusals of a command whose key wasn't used, in their order
abbrev pub rows_of : WorldValue → BookValue → ℕ → Command → Rows
rows_of world book today command =
    (has_all_commands book (key_of command), limit 5 max_commands) ∷ own_rows world book today command

-- a new command: refused, or accepted
abbrev pub new_step_over : WorldValue → BookValue → ℕ → Command → ℕ → ℕ → Result Outcome Refusal
new_step_over world book today command day count =
    of_refusal (first_refusal (rows_of world book today command))
  where
    of_refusal : Option Refusal → Result Outcome Refusal
    of_refusal (Some refused) = Err refused
    of_refusal None = Ok (accepted_over world book today command day count)

-- A command whose key was used gives the kept answer and leaves the book, if it is the same command, and is
-- refused if it is another one.
abbrev pub step_over : WorldValue → BookValue → ℕ → Command → ℕ → ℕ → Result Outcome Refusal
step_over world book today command day count = of_kept (kept_of book (key_of command))
  where
    of_kept : Option Kept → Result Outcome Refusal
    of_kept None = new_step_over world book today command day count
    of_kept (Some kept) =
        if bytes_eq kept.spelling (spelling command) then Ok (kept.answer, book) else Err refusal.KeyReused

-- one step of an account: what is due is looked at on all days
unfoldable pub step : WorldValue → BookValue → ℕ → Command → Result Outcome Refusal
step world book today command = step_over world book today command first_day charged_days
