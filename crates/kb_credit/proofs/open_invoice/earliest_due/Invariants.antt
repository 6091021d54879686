-- What was found and the days of those that are left give what all give.
use Rattle.std.proofs.Common.{◌≡◌, ◌++◌, drop, option_to_list}
use Rattle.kb_credit.specs.InvoiceRows.{least}
use Rattle.kb_credit.specs.Private.OpenInvoices.{due_days}
use Rattle.kb_credit.proofs.open_invoice.earliest_due.Given as goal

abbrev pub invariant-loop-one : goal.invariant-loop-one
invariant-loop-one l =
    least (option_to_list l.found ++ due_days (drop l.one-index l.invoices)) ≡ least (due_days l.invoices)
