-- Nothing is paid on a new invoice.
use Rattle.std.proofs.Common.{ap, arith}
use Rattle.kb_credit.specs.InvoiceRows.{InvoicesValue}
use Rattle.kb_credit.specs.Sizes.{size_of}
use Rattle.kb_credit.specs.declared.row.Row.{Row}
use Rattle.kb_credit.proofs.GrownSizes.{payments-issued}
use Rattle.kb_account.proofs.invoicing.invoices_after.Goals as goal

pub moved_and_levelled-requires-2-clause-paid : goal.moved_and_levelled-requires-2-clause-paid
moved_and_levelled-requires-2-clause-paid c =
    let same = ap (λ (invoices : InvoicesValue). size_of (λ (row : Row). row.paid) invoices.rows)
    c.in_ok-issued.ensures.issued in
    omega (arith, same, payments-issued c.args.invoices.now c.args.today c.args.lines.now, c.requires.paid)
