-- Those that are left give what all give.
use Rattle.std.proofs.Common.{◌≡◌, drop}
use Rattle.kb_credit.specs.Private.OpenInvoices.{next_due}
use Rattle.kb_credit.proofs.open_invoice.next_due.Given as goal

abbrev pub invariant-loop-one : goal.invariant-loop-one
invariant-loop-one l = next_due l.after (drop l.one-index l.invoices) ≡ next_due l.after l.invoices
