-- What holds of books for the sake of what is due by them.
use Rattle.std.specs.Prelude.{ℕ, ◌+◌, ◌≡◌, List, length, Some, All, T}
use Rattle.std.specs.FinMap.{is_sorted}
use Rattle.kb_sharing.specs.Keys.{by_words}
use Rattle.kb_codec.specs.declared.command.Command.{Command}
use Rattle.kb_tree.specs.Numbers.{AreBelow}
use Rattle.kb_book.specs.Worlds.{WorldValue}
use Rattle.kb_book.specs.Books.{BookValue}
use Rattle.kb_book.specs.Dues.{facts_of}
use Rattle.kb_book.specs.BilledBooks.{AreCharged}
use Rattle.kb_codec.specs.Entries.{History}
use Rattle.kb_machine.specs.Judged.{after_judged}
use Rattle.kb_machine.specs.Machines.{MachineValue, book_of, judged}
use Rattle.kb_machine.specs.Histories.{replay}

-- A book was billed by some texts: those of the world at its last command. Each of its subscriptions has its
-- items, whose numbers are below the next one.
pub record WasBilled (book : BookValue) : Type 0 where
  pub world : WorldValue
  pub days : AreCharged (facts_of world book) book.billed 0 book.charges
  pub matched : length book.charges ≡ length book.timeline.subscriptions
  pub below : All (AreBelow (length book.invoices.items + 1)) book.charges

-- so was each book of a machine, and they stand in the order of their accounts' names
pub record AreBilled (machine : MachineValue) : Type 0 where
  pub billed : (account : List ℕ) (book : BookValue) → book_of machine account ≡ Some book → WasBilled book
  pub ordered : T (is_sorted by_words machine.books)

-- they stay so after each command
abbrev pub BooksStayBilled : Type 0
BooksStayBilled = (machine : MachineValue) (today : ℕ) (command : Command) → AreBilled machine
    → AreBilled (after_judged machine (judged machine today command))

-- so what each history leads to is so
abbrev pub ReplaysAreBilled : Type 0
ReplaysAreBilled = (history : History) → AreBilled (replay history)
