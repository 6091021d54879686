use Rattle.std.proofs.Common.{ap, ◌∙◌, arith, to_z-of_z}
use Rattle.std.specs.Int.{w128}
use Rattle.kb_credit.specs.InvoiceRows.{InvoicesValue, unpaid}
use Rattle.kb_credit.specs.Private.OpenInvoices.{due_sum}
use Rattle.kb_credit.proofs.OpenReads.{due_sum-opened}
use Rattle.kb_credit.proofs.AdjustedPlaces.{size_of-open}
use Rattle.kb_credit.proofs.invoices.Invoices.unpaid.Goals as goal

pub due_sum-requires : goal.due_sum-requires
due_sum-requires c =
    let inside = c.self.inside in
    let value : InvoicesValue = record { rows = inside.rows; items = inside.items } in
    let small = size_of-open value c.self.invariant.0 in
    record { bounded = rw (c.as_slice.ensures, c.self.invariant.1.opens) (omega (arith, small)) }

pub returns : goal.returns
returns c =
    to_z-of_z {w = w128} (record { sfits = c.due_sum.type_inv })
    ∙ c.due_sum.ensures
    ∙ ap due_sum (c.as_slice.ensures ∙ c.self.invariant.1.opens)
    ∙ due_sum-opened 1 c.self.inside.rows
    ∙ ap (λ (value : InvoicesValue). unpaid value.rows) c.self.view_is
