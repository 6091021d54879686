-- What an account asks for by itself takes at least as much off the work that it may yet ask for as it
-- leaves to do.
use Rattle.std.specs.Prelude.{ℕ, ◌+◌, ◌≡◌, ◌≤◌, Bool, true, List, Some}
use Rattle.kb_days.specs.Calendar.{last_day}
use Rattle.kb_codec.specs.declared.command.Command.{Command}
use Rattle.kb_book.specs.Books.{BookValue}
use Rattle.kb_book.specs.NextDues.{next_due}
use Rattle.kb_machine.specs.Machines.{MachineValue, book_of}
use Rattle.kb_machine.specs.Histories.{entry_after}
use Rattle.kb_histories.specs.PaymentKeys.{AreKeyed}
use Rattle.kb_histories.specs.Names.{AreNamed}
use Rattle.kb_histories.specs.OwnWork.{work_left, all_work}
use Rattle.kb_histories.specs.BilledMachines.{AreBilled}

-- of the accounts whose names pass a test, if this one's does
abbrev pub DueCommandsTakeWork : Type 0
DueCommandsTakeWork = (machine : MachineValue) (today : ℕ) (named : List ℕ → Bool) (account : List ℕ)
    (book : BookValue) (command : Command) → AreNamed machine → AreKeyed machine → AreBilled machine
    → today ≤ last_day → named account ≡ true → book_of machine account ≡ Some book
    → next_due machine.texts.world book today ≡ Some command
    → all_work named today (entry_after machine (today, command)) + work_left command
    ≤ all_work named today machine
