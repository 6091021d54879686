-- The book of one account.
use Rattle.std.specs.Prelude.{ℕ, Bool, List, [], ℤ, pos, Option, None}
use Rattle.kb_timeline.specs.TimelineEdits.{TimelineValue, no_subscriptions}
use Rattle.kb_blocking.specs.declared.state.BlockState.{BlockState}
use Rattle.kb_payment.specs.PaymentSums.{PaymentsValue}
use Rattle.kb_payment.specs.PaymentEdits.{no_payments}
use Rattle.kb_credit.specs.InvoiceRows.{InvoicesValue}
use Rattle.kb_credit.specs.InvoiceEdits.{no_invoices}
use Rattle.kb_book.specs.declared.answer.Answer.{Answer}
use Rattle.kb_tree.specs.Issues.{SubscriptionItems}

-- what is kept of an accepted command for good: its spelling, and its answer
pub record Kept : Type 0 where
  pub spelling : List ℕ
  pub answer : Answer

-- values by their keys, in order of these: what std finds in a list and puts into it
abbrev pub Keyed : Type 0 → Type 0
Keyed V = List (List ℕ × V)

-- What an account is. Of each subscription, in order of creation, stand the items that charge it. What is
-- charged and credited beside subscriptions is kept as one sum, in minor units. The overdue state is a name,
-- none for CLEAR; beside it stands the day of the last transition.
pub record BookValue : Type 0 where
  pub account : List ℕ
  pub currency : List ℕ
  pub bcd : ℕ
  pub autopay : Bool
  pub timeline : TimelineValue
  pub blocks : List BlockState
  pub billed : Option ℕ
  pub beside : ℤ
  pub payments : PaymentsValue
  pub invoices : InvoicesValue
  pub charges : List SubscriptionItems
  pub overdue : Option (List ℕ)
  pub transition : Option ℕ
  pub commands : ℕ
  pub kept : Keyed Kept

-- a book as it is opened, before that command is counted and kept
abbrev pub new_book : List ℕ → List ℕ → ℕ → Bool → BookValue
new_book account currency bcd autopay = record {
  account = account;
  currency = currency;
  bcd = bcd;
  autopay = autopay;
  timeline = no_subscriptions;
  blocks = [];
  billed = None;
  beside = pos 0;
  payments = no_payments;
  invoices = no_invoices;
  charges = [];
  overdue = None;
  transition = None;
  commands = 0;
  kept = [];
}
