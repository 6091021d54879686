use Rattle.std.proofs.Common.{◌≡◌, ◌-◌, ◌^◌, nat_lt}
use Rattle.std.specs.List.{find, filter}
use Rattle.kb_credit.specs.InvoiceRows.{unpaid_numbers}
use Rattle.kb_book.specs.Inner as told
use Rattle.kb_edits.proofs.due.invoice_to_pay.Given as goal

-- what may be paid has a number after those that were looked at
abbrev pub invariant-loop-invoice : goal.invariant-loop-invoice
invariant-loop-invoice l =
    find (told.may_be_paid l.payments l.today) (filter (nat_lt l.last) (unpaid_numbers 1 l.invoices.rows))
    ≡ told.invoice_to_pay l.payments l.invoices l.today

abbrev pub decreases-loop-invoice : goal.decreases-loop-invoice
decreases-loop-invoice l = 2 ^ 32 - l.last
