-- What moves, levelled.
use Rattle.std.proofs.Common.{◌≡◌, ap, sym, ◌∙◌, arith, rules}
use Rattle.kb_credit.specs.InvoiceEdits.{levelled, paid_on}
use Rattle.kb_credit.specs.InvoiceRows.{InvoicesValue}
use Rattle.kb_account.proofs.MovedInvoices.{moved_some}
use Rattle.kb_account.proofs.invoicing.moved_and_levelled.Goals as goal

pub returns-clause-after : goal.returns-clause-after
returns-clause-after c =
    let after : c.in_ok-levelled-2.levelled ≡ levelled (paid_on c.args.invoices.now c.args.moved.invoice
    c.args.moved.amount) =
    search rules in
    after
    ∙ ap (λ (invoices : InvoicesValue). levelled invoices)
    (sym (moved_some c.args.moved.invoice c.args.moved.amount c.args.invoices.now (omega arith)))
