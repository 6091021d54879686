-- A command's own edit as a book.
use Rattle.std.specs.Prelude.{ℕ, ◌^◌, ◌≤◌, Bool, true, false, List, [], ◌∷◌, ◌++◌, length, nat_abs}
use Rattle.std.specs.Prelude.{Option, Some, None}
use Rattle.std.specs.Arc.{arc_value}
use Rattle.kb_payment.specs.declared.attempt.Attempt.{Attempt}
use Rattle.kb_payment.specs.PaymentSums.{PaymentsValue, Moves, attempt_of}
use Rattle.kb_codec.specs.declared.action.Action.{Action}
use Rattle.kb_codec.specs.declared.command.Command.{Command}
use Rattle.kb_book.specs.declared.refusal.Refusal.{Refusal}
use Rattle.kb_book.specs.Worlds.{WorldValue}
use Rattle.kb_book.specs.Rows.{first_refusal}
use Rattle.kb_book.specs.Commands.{action_rows, own_rows, acted, action_bills, moved_to}
use Rattle.kb_tree.specs.Issues.{SubscriptionItems, no_items}
use Rattle.kb_book.specs.Books.{BookValue}
use Rattle.kb_account.specs.declared.begun.Begun.{Begun}
use Rattle.kb_account.specs.declared.begun.Move.{Move}

-- what is charged, and a new subscription without an item behind it
abbrev pub with_started : Bool → List SubscriptionItems → List SubscriptionItems
with_started true charges = charges ++ no_items ∷ []
with_started false charges = charges

-- the book with an edit
abbrev pub begun_of : BookValue → Begun → BookValue
begun_of book begun = record book {
  autopay = begun.autopay;
  timeline = arc_value begun.timeline;
  blocks = arc_value begun.blocks;
  billed = begun.billed;
  beside = begun.beside;
  payments = arc_value begun.payments;
  charges = with_started begun.started book.charges;
  overdue = begun.overdue;
  transition = begun.transition;
}

-- what is paid moves just so, and by no more than one attempt may pay
pub record HasMoved (old new : PaymentsValue) (moved : Move) : Type 0 where
  pub by : Moves old new moved.invoice moved.amount
  pub small : nat_abs moved.amount ≤ 2 ^ 64

-- what holds of an edit of a book: what it says that moves is on an invoice that is there
pub record IsBegun (book : BookValue) (begun : Begun) : Type 0 where
  pub moved : HasMoved book.payments (arc_value begun.payments) begun.moved
  pub there : begun.moved.invoice ≤ length book.invoices.rows

-- a book with an action's own edit, and its billed date
abbrev pub action_begun : WorldValue → BookValue → ℕ → Action → BookValue
action_begun world book today action = record (acted world book today action) {
  billed = moved_to book.billed (action_bills today action);
}

-- the first of an action's own refusals, and of a command's
abbrev pub action_refusal : WorldValue → BookValue → ℕ → Action → Option Refusal
action_refusal world book today action = first_refusal (action_rows world book today action)

abbrev pub own_refusal : WorldValue → BookValue → ℕ → Command → Option Refusal
own_refusal world book today command = first_refusal (own_rows world book today command)

-- the invoice of the attempt of a key; 0 if there is none
abbrev pub invoice_by : Option Attempt → ℕ
invoice_by None = 0
invoice_by (Some attempt) = attempt.invoice

abbrev pub invoice_of : PaymentsValue → List ℕ → ℕ
invoice_of payments key = invoice_by (attempt_of payments key)
