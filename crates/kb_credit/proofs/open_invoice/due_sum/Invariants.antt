-- The sum so far and what is due of those that are left are the sum of all.
use Rattle.std.proofs.Common.{◌≡◌, ◌+ℤ◌, ◌≤ℤ◌, pos, drop}
use Rattle.kb_credit.specs.Private.OpenInvoices.{due_sum}
use Rattle.kb_credit.proofs.open_invoice.due_sum.Given as goal

abbrev pub invariant-loop-one : goal.invariant-loop-one
invariant-loop-one l = record {
  whole : l.sum +ℤ due_sum (drop l.one-index l.invoices) ≡ due_sum l.invoices;
  least : pos 0 ≤ℤ l.sum;
}
