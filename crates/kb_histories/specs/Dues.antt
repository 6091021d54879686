-- The command that a book asks for by itself.
use Rattle.std.specs.Prelude.{ℕ, ◌≡◌, true, false, List, codes, Some, refl}
use Rattle.kb_days.specs.Dates.{march}
use Rattle.kb_overdue.specs.OverdueDays.{state_on}
use Rattle.kb_codec.specs.declared.command.Command.{Command}
use Rattle.kb_codec.specs.declared.command.Command.TheVariants as kinds
use Rattle.kb_book.specs.Books.{BookValue}
use Rattle.kb_book.specs.Steps.{step}
use Rattle.kb_book.specs.NextDues.{next_due}
use Rattle.kb_machine.specs.Judged.{is_new}
use Rattle.kb_machine.specs.Machines.{MachineValue, book_of, judged}
use Rattle.kb_codec.specs.Senders.{account_of}
use Rattle.kb_machine.specs.Histories.{entry_after}
use Rattle.kb_histories.specs.Names.{AreNamed}
use Rattle.kb_histories.specs.SmallMachines.{owing_book, machine_with}

-- the automatic payment of the invoice that a1 owes, and the machine with its book
abbrev pay_itself : Command
pay_itself = kinds.Auto (record { account = codes "a1"; invoice = 1 })

abbrev automatic : MachineValue
automatic = machine_with (owing_book true)

asks_for_it : next_due automatic.texts.world (owing_book true) (march 2) ≡ Some pay_itself
unfolding state_on
asks_for_it = refl

-- it names the book's own account
abbrev pub DueCommandsAreNamed : Type 0
DueCommandsAreNamed = (machine : MachineValue) (today : ℕ) (account : List ℕ) (book : BookValue)
    (command : Command) → AreNamed machine → book_of machine account ≡ Some book
    → next_due machine.texts.world book today ≡ Some command → account_of command ≡ account

-- and it is new
abbrev pub DueCommandsAreNew : Type 0
DueCommandsAreNew = (machine : MachineValue) (today : ℕ) (account : List ℕ) (book : BookValue)
    (command : Command) → AreNamed machine → book_of machine account ≡ Some book
    → next_due machine.texts.world book today ≡ Some command
    → is_new (judged machine today command) ≡ true

it_is_new : is_new (judged automatic (march 2) pay_itself) ≡ true
unfolding judged step
it_is_new = refl

-- the next command isn't the same one, since its attempt is open
asked_once : is_new (judged (entry_after automatic (march 2, pay_itself)) (march 2) pay_itself) ≡ false
unfolding judged step
asked_once = refl
