-- What those that are left make gives what all make, and no sum is too large.
use Rattle.std.proofs.Common.{◌≡◌, ◌+◌, ◌^◌, ◌≤◌, ◌++◌, drop, nat_abs}
use Rattle.kb_credit.specs.Sizes.{size_of}
use Rattle.kb_credit.specs.declared.open_invoice.OpenInvoice.{OpenInvoice}
use Rattle.kb_credit.specs.Private.Passes.{all_made, with_all_made}
use Rattle.kb_credit.proofs.levelling.make_credit.Given as goal

abbrev pub invariant-loop-one : goal.invariant-loop-one
invariant-loop-one l = record {
  credit : with_all_made l.left (drop l.one-index l.invoices) ≡ with_all_made l.credit l.invoices;
  noted : l.adjustments.items ++ all_made (drop l.one-index l.invoices)
      ≡ l.fn.adjustments.items ++ all_made l.invoices;
  bounded : nat_abs l.left + size_of (λ (one : OpenInvoice). one.balance) (drop l.one-index l.invoices)
      ≤ 2 ^ 126;
}
