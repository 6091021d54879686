-- The count so far and that of those that are left are the count of all.
use Rattle.std.proofs.Common.{◌≡◌, ◌+◌, drop}
use Rattle.kb_credit.specs.Private.OpenInvoices.{due_count}
use Rattle.kb_credit.proofs.open_invoice.due_count.Given as goal

abbrev pub invariant-loop-one : goal.invariant-loop-one
invariant-loop-one l = l.count + due_count (drop l.one-index l.invoices) ≡ due_count l.invoices
