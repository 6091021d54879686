use Rattle.std.proofs.Common.{ap, ◌∙◌}
use Rattle.kb_credit.specs.InvoiceRows.{InvoicesValue, next_unpaid}
use Rattle.kb_credit.specs.Private.OpenInvoices.{next_due}
use Rattle.kb_credit.proofs.OpenReads.{next_due-opened}
use Rattle.kb_credit.proofs.invoices.Invoices.next_unpaid.Goals as goal

pub returns : goal.returns
returns c =
    c.next_due.ensures
    ∙ ap (next_due c.args.after) (c.as_slice.ensures ∙ c.self.invariant.1.opens)
    ∙ next_due-opened c.args.after c.self.inside.rows
    ∙ ap (λ (value : InvoicesValue). next_unpaid c.args.after value.rows) c.self.view_is
