-- Items are only added to invoices, and invoices keep their numbers, days and totals.
use Rattle.std.specs.Prelude.{ℕ, ◌+◌, ◌≡◌, ◌≤◌, List, [], ◌∷◌, ◌++◌, length, map, Option, None, Some, codes}
use Rattle.std.specs.Prelude.{pos, neg_ℤ, refl}
use Rattle.kb_days.specs.Dates.{march}
use Rattle.kb_credit.specs.declared.invoice.Invoice.{Invoice}
use Rattle.kb_credit.specs.declared.row.Row.{Row}
use Rattle.kb_credit.specs.InvoiceRows.{invoice_of, march_row, repair_row}
use Rattle.kb_codec.specs.declared.command.Command.{Command}
use Rattle.kb_book.specs.Books.{BookValue}
use Rattle.kb_book.specs.Steps.{step}
use Rattle.kb_book.specs.AddedItems.{GoOn}
use Rattle.kb_codec.specs.Entries.{History}
use Rattle.kb_machine.specs.Judged.{after_judged}
use Rattle.kb_machine.specs.Machines.{MachineValue, book_of, judged}
use Rattle.kb_machine.specs.Histories.{replay}
use Rattle.kb_histories.specs.EvenNow.{credited_late}

-- what is told of each invoice, in order of their numbers: its day and its total
abbrev pub invoices_of : List Row → List Invoice
invoices_of rows = map invoice_of rows

march_told : invoices_of (march_row ∷ repair_row ∷ [])
    ≡ record { day = march 1; total = pos 1000 } ∷ record { day = march 25; total = neg_ℤ (pos 387) } ∷ []
march_told = refl

-- a book goes on: its items stay in front of those that are added, and its invoices in front of the new ones,
-- each with its number, its day and its total
pub record BookGoesOn (before after : BookValue) : Type 0 where
  pub items : GoOn before after
  pub more : List Invoice
  pub rows : invoices_of after.invoices.rows ≡ invoices_of before.invoices.rows ++ more

-- each account that there is stays, and its book goes on
abbrev pub BooksGoOn : MachineValue → MachineValue → Type 0
BooksGoOn before after =
    (account : List ℕ) (book : BookValue) → book_of before account ≡ Some book
    → (next : BookValue) × (book_of after account ≡ Some next) × BookGoesOn book next

-- they go on over each command
abbrev pub CommandsOnlyAdd : Type 0
CommandsOnlyAdd = (machine : MachineValue) (today : ℕ) (command : Command)
    → BooksGoOn machine (after_judged machine (judged machine today command))

-- so they do over a whole history, and from it to each longer one
abbrev pub HistoriesOnlyAdd : Type 0
HistoriesOnlyAdd = (history more : History) → BooksGoOn (replay history) (replay (history ++ more))

-- how many invoices there are in an account's book
abbrev pub invoice_count : Option BookValue → ℕ
invoice_count None = 0
invoice_count (Some book) = length book.invoices.rows

-- each command issues at most one invoice, in whatever account
abbrev pub CommandsIssueOne : Type 0
CommandsIssueOne = (machine : MachineValue) (today : ℕ) (command : Command) (account : List ℕ)
    → invoice_count (book_of (after_judged machine (judged machine today command)) account)
    ≤ invoice_count (book_of machine account) + 1

-- a1 was charged once and credited once, so there are two invoices
two_invoices : invoice_count (book_of (replay credited_late) (codes "a1")) ≡ 2
unfolding replay judged step
two_invoices = refl
