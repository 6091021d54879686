-- What always holds of a book, whatever the texts of the world.
use Rattle.std.specs.Prelude.{ℕ, ◌+◌, ◌*◌, ◌^◌, ◌≡◌, ◌≤◌, ◌<◌, ◌≤ℤ◌, ◌-ℤ◌, pos, nat_abs, length, All, List}
use Rattle.std.specs.Int.{int_max}
use Rattle.kb_credit.specs.declared.row.Row.{Row}
use Rattle.kb_credit.specs.Sizes.{size_of}
use Rattle.kb_credit.specs.InvoiceRows.{balance_of}
use Rattle.kb_credit.specs.InvoiceRows as sums
use Rattle.kb_payment.specs.declared.attempt.Attempt.{Attempt}
use Rattle.kb_tree.specs.Numbers.{AreBelow}
use Rattle.kb_book.specs.Worlds.{WorldValue}
use Rattle.kb_book.specs.Books.{BookValue}
use Rattle.kb_book.specs.Steps.{with_paid}
use Rattle.kb_book.specs.BilledBooks.{IsBilled}
use Rattle.kb_book.specs.OwnKeys.{IsOwned}

-- Each subscription has its items, whose numbers are below the next one. Each command issues at most one
-- invoice, and no sum grows by more than one command may add to it. What is paid on an invoice is what its
-- payments say, none is paid beyond its total, and credit is by how much payments exceed totals. An account
-- has fewer than 2^32 commands, as a journal has. It is billed by some texts: those of the
-- world at its last command.
pub record IsBook (book : BookValue) : Type 0 where
  pub billed : (world : WorldValue) × IsBilled world book
  pub matched : length book.charges ≡ length book.timeline.subscriptions
  pub below : All (AreBelow (length book.invoices.items + 1)) book.charges
  pub few : book.commands < 2 ^ 32
  pub issued : length book.invoices.rows ≤ book.commands
  pub totals : size_of (λ (row : Row). row.total) book.invoices.rows ≤ 2 ^ 55 * book.commands
  pub paid : size_of (λ (row : Row). row.paid) book.invoices.rows ≤ 2 ^ 64 * book.commands
  pub beside : nat_abs book.beside ≤ 10 ^ 9 * book.commands
  pub noted : with_paid book.payments book.invoices ≡ book.invoices
  pub credited : sums.credit book.invoices.rows
      ≡ int_max (pos 0) (sums.paid book.invoices.rows -ℤ sums.charged book.invoices.rows)
  pub owed : sums.unpaid book.invoices.rows
      ≡ int_max (pos 0) (sums.charged book.invoices.rows -ℤ sums.paid book.invoices.rows)
  pub levelled : All (λ (row : Row). pos 0 ≤ℤ balance_of row) book.invoices.rows
  pub owned : All (λ (entry : List ℕ × Attempt). IsOwned entry.0 entry.1) book.payments
  pub invoiced : All (λ (entry : List ℕ × Attempt). entry.1.invoice ≤ length book.invoices.rows) book.payments
