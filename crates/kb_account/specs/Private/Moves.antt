-- What moves on an invoice.
use Rattle.std.specs.Prelude.{ℕ, zero, suc, ℤ}
use Rattle.kb_credit.specs.InvoiceRows.{InvoicesValue}
use Rattle.kb_credit.specs.InvoiceEdits.{paid_on}
use Rattle.kb_account.specs.declared.begun.Move.{Move}

-- what is paid on the invoice of a number moves by an amount; there is no invoice 0
abbrev pub with_moved : ℕ → ℤ → InvoicesValue → InvoicesValue
with_moved zero amount invoices = invoices
with_moved (suc before) amount invoices = paid_on invoices (suc before) amount

abbrev pub with_move : Move → InvoicesValue → InvoicesValue
with_move moved invoices = with_moved moved.invoice moved.amount invoices
