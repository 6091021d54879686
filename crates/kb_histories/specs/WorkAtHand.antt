-- The work that is at hand: what accounts may ask for by themselves on a day while no invoice is issued.
use Rattle.std.specs.Prelude.{ℕ, ◌+◌, ◌*◌, ◌≡◌, ◌≤◌, Bool, true, List, length, sum_by, Some, if◌then◌else◌}
use Rattle.std.specs.Prelude.{refl}
use Rattle.kb_days.specs.Calendar.{last_day}
use Rattle.kb_days.specs.Dates.{march}
use Rattle.kb_codec.specs.declared.command.Command.{Command}
use Rattle.kb_codec.specs.declared.command.Command.TheVariants as kinds
use Rattle.kb_codec.specs.declared.command.Settle.{Settle}
use Rattle.kb_book.specs.Books.{BookValue}
use Rattle.kb_book.specs.Inner.{is_after}
use Rattle.kb_book.specs.NextDues.{next_due}
use Rattle.kb_machine.specs.Machines.{MachineValue, book_of}
use Rattle.kb_machine.specs.Histories.{entry_after}
use Rattle.kb_histories.specs.PaymentKeys.{AreKeyed}
use Rattle.kb_histories.specs.Names.{AreNamed}
use Rattle.kb_histories.specs.BilledMachines.{AreBilled}
use Rattle.kb_histories.specs.SmallMachines.{owing_book, machine_with}
use Rattle.kb_histories.specs.OwnWork.{work_left, unattempted}
use Rattle.kb_histories.specs.NamedWork.{named_accounts, named_invoices}

-- of a book: the look that a transition leaves, if one may yet come, and an automatic payment of each invoice
-- that has none of this day
abbrev pub work_at_hand : ℕ → BookValue → ℕ
work_at_hand today book =
    (if is_after book.transition today then 1 else 0)
    + 3 * unattempted book.payments today (length book.invoices.rows)

-- the same of an account, if its name passes a test
abbrev pub named_at_hand : (List ℕ → Bool) → ℕ → List ℕ × BookValue → ℕ
named_at_hand named today entry = if named entry.0 then work_at_hand today entry.1 else 0

-- and of all accounts
abbrev pub all_at_hand : (List ℕ → Bool) → ℕ → MachineValue → ℕ
all_at_hand named today machine = sum_by (named_at_hand named today) machine.books

-- an account that owes an invoice and has it paid automatically
of_one_invoice : all_at_hand (λ account. true) (march 2) (machine_with (owing_book true)) ≡ 4
of_one_invoice = refl

-- What an account asks for by itself takes as much off as it leaves to do, except for an invoice that it
-- issues, which adds 3.
abbrev pub DueCommandsTakeAtHand : Type 0
DueCommandsTakeAtHand = (machine : MachineValue) (today : ℕ) (named : List ℕ → Bool) (account : List ℕ)
    (book : BookValue) (command : Command) → AreNamed machine → AreKeyed machine → AreBilled machine
    → today ≤ last_day → named account ≡ true → book_of machine account ≡ Some book
    → next_due machine.texts.world book today ≡ Some command
    → all_at_hand named today (entry_after machine (today, command)) + work_left command
    + 3 * named_invoices named machine
    ≤ all_at_hand named today machine + 3 * named_invoices named (entry_after machine (today, command))

-- A settlement adds 3 for an invoice that it issues, and nothing else.
abbrev pub SettlementsAddInvoices : Type 0
SettlementsAddInvoices = (machine : MachineValue) (today : ℕ) (named : List ℕ → Bool) (c : Settle)
    → AreBilled machine
    → all_at_hand named today (entry_after machine (today, kinds.Settle c)) + 3 * named_invoices named machine
    ≤ all_at_hand named today machine + 3 * named_invoices named (entry_after machine (today, kinds.Settle c))

-- At most a transition of each account, and a payment of each invoice that there is.
abbrev pub AtHandIsBounded : Type 0
AtHandIsBounded = (machine : MachineValue) (today : ℕ) (named : List ℕ → Bool)
    → all_at_hand named today machine ≤ named_accounts named machine + 3 * named_invoices named machine
