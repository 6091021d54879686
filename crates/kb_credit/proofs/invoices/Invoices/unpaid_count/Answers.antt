use Rattle.std.proofs.Common.{ap, ◌∙◌, arith}
use Rattle.kb_credit.specs.InvoiceRows.{InvoicesValue, unpaid_count}
use Rattle.kb_credit.specs.Private.OpenInvoices.{due_count}
use Rattle.kb_credit.proofs.OpenReads.{due_count-opened, length-opened}
use Rattle.kb_credit.proofs.invoices.Invoices.unpaid_count.Goals as goal

pub due_count-requires : goal.due_count-requires
due_count-requires c =
    let few = c.self.invariant.0.numbered in
    let fewer = length-opened 1 c.self.inside.rows in
    record { few = rw (c.as_slice.ensures, c.self.invariant.1.opens) (omega (arith, few, fewer)) }

pub returns : goal.returns
returns c =
    c.due_count.ensures
    ∙ ap due_count (c.as_slice.ensures ∙ c.self.invariant.1.opens)
    ∙ due_count-opened 1 c.self.inside.rows
    ∙ ap (λ (value : InvoicesValue). unpaid_count value.rows) c.self.view_is
