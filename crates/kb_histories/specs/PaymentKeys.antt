-- What keeps the payment keys of the platform's own apart from those that were used.
use Rattle.std.specs.Prelude.{ℕ, ◌^◌, ◌≡◌, ◌<◌, ◌≤◌, List, length, Some, All}
use Rattle.kb_payment.specs.declared.attempt.Attempt.{Attempt}
use Rattle.kb_book.specs.Books.{BookValue}
use Rattle.kb_book.specs.OwnKeys.{IsOwned}
use Rattle.kb_codec.specs.Entries.{History}
use Rattle.kb_machine.specs.Machines.{MachineValue, book_of}
use Rattle.kb_machine.specs.Histories.{replay}

-- An attempt under a key of the platform's own is the automatic payment which the key names, each attempt is
-- on an invoice that is there, and each invoice has a number that a key may have. So the automatic payment
-- that is due has a key of which there is no attempt.
pub record IsKeyed (book : BookValue) : Type 0 where
  pub owned : All (λ (entry : List ℕ × Attempt). IsOwned entry.0 entry.1) book.payments
  pub invoiced : All (λ (entry : List ℕ × Attempt). entry.1.invoice ≤ length book.invoices.rows) book.payments
  pub few : length book.invoices.rows < 2 ^ 64

-- so is each book of a machine
pub record AreKeyed (machine : MachineValue) : Type 0 where
  pub keyed : (account : List ℕ) (book : BookValue) → book_of machine account ≡ Some book → IsKeyed book

-- what a history of fewer than 2^64 commands leads to is so
abbrev pub ReplaysAreKeyed : Type 0
ReplaysAreKeyed = (history : History) → length history < 2 ^ 64 → AreKeyed (replay history)
