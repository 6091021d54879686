-- Books are found under the names of their accounts.
use Rattle.std.specs.Prelude.{ℕ, ◌≡◌, List, Some}
use Rattle.kb_codec.specs.declared.command.Command.{Command}
use Rattle.kb_book.specs.Books.{BookValue}
use Rattle.kb_codec.specs.Entries.{History}
use Rattle.kb_machine.specs.Judged.{after_judged}
use Rattle.kb_machine.specs.Machines.{MachineValue, book_of, judged}
use Rattle.kb_machine.specs.Histories.{replay}

-- each book that is found under an account's name is that account's
pub record AreNamed (machine : MachineValue) : Type 0 where
  pub named : (account : List ℕ) (book : BookValue) → book_of machine account ≡ Some book
      → book.account ≡ account

-- it stays so after each command
abbrev pub NamesStay : Type 0
NamesStay = (machine : MachineValue) (today : ℕ) (command : Command) → AreNamed machine
    → AreNamed (after_judged machine (judged machine today command))

-- so it holds of what each history leads to
abbrev pub ReplaysAreNamed : Type 0
ReplaysAreNamed = (history : History) → AreNamed (replay history)
