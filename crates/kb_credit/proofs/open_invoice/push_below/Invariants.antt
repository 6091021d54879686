-- What is kept so far, and what is kept of those that are left, are all.
use Rattle.std.proofs.Common.{◌≡◌, ◌++◌, drop, filter, nat_lt}
use Rattle.kb_credit.specs.declared.open_invoice.OpenInvoice.{OpenInvoice}
use Rattle.kb_credit.proofs.open_invoice.push_below.Given as goal

abbrev pub invariant-loop-one : goal.invariant-loop-one
invariant-loop-one l =
    l.kept.items ++ filter (λ (one : OpenInvoice). nat_lt one.invoice l.invoice) (drop l.one-index l.invoices)
    ≡ l.fn.kept.items ++ filter (λ (one : OpenInvoice). nat_lt one.invoice l.invoice) l.invoices
