-- Accounts are billed by the texts of now, not only by those of their last command.
use Rattle.std.specs.Prelude.{ℕ, ◌≡◌, List, [], ◌∷◌, length, Some, true, refl}
use Rattle.kb_catalog.specs.SmallVersion.{small}
use Rattle.kb_codec.specs.declared.command.Command.{Command}
use Rattle.kb_book.specs.Books.{BookValue}
use Rattle.kb_book.specs.BilledBooks.{IsBilled}
use Rattle.kb_codec.specs.Entries.{History}
use Rattle.kb_machine.specs.Judged.{after_judged}
use Rattle.kb_machine.specs.Machines.{MachineValue, book_of, judged}
use Rattle.kb_machine.specs.Histories.{replay}
use Rattle.kb_histories.specs.SmallMachines.{owing_book}
use Rattle.kb_histories.specs.OwnWork.{invoices_due}
use Rattle.kb_histories.specs.BilledMachines.{AreBilled}
use Rattle.kb_histories.specs.HeldMachines.{HasAllPlans}

-- each day of each account has exactly the charge that is due by the texts at the account's billed date, or
-- none, and its invoices total what all days cost by them; and each of its subscriptions is charged so
pub record AreBilledNow (machine : MachineValue) : Type 0 where
  pub billed : (account : List ℕ) (book : BookValue) → book_of machine account ≡ Some book
      → IsBilled machine.texts.world book
  pub matched : (account : List ℕ) (book : BookValue) → book_of machine account ≡ Some book
      → length book.charges ≡ length book.timeline.subscriptions

-- it stays so after each command
abbrev pub BooksStayBilledNow : Type 0
BooksStayBilledNow = (machine : MachineValue) (today : ℕ) (command : Command) → AreBilled machine
    → HasAllPlans machine → AreBilledNow machine
    → AreBilledNow (after_judged machine (judged machine today command))

-- so it holds of what each history leads to
abbrev pub ReplaysAreBilledNow : Type 0
ReplaysAreBilledNow = (history : History) → AreBilledNow (replay history)

-- and no account has an invoice that its next command would issue whatever it is
abbrev pub NoInvoiceIsDue : Type 0
NoInvoiceIsDue = (history : History) (account : List ℕ) (book : BookValue)
    → book_of (replay history) account ≡ Some book
    → invoices_due (replay history).texts.world book ≡ 0

none_without_a_subscription : invoices_due (record { versions = small ∷ []; states = [] }) (owing_book true)
    ≡ 0
none_without_a_subscription = refl
