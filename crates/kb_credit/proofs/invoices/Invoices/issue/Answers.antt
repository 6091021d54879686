use Rattle.std.proofs.Common.{◌≡◌, ◌+◌, ◌++◌, ◌∷◌, [], List, map, length, ap, ap₂, sym, subst, ◌∙◌}
use Rattle.kb_sharing.specs.Sums.{sum_of}
use Rattle.kb_credit.specs.declared.row.Row.{Row}
use Rattle.kb_credit.specs.declared.line.Line.{Line}
use Rattle.kb_credit.specs.Items.{amount_of}
use Rattle.kb_credit.specs.InvoiceRows.{InvoicesValue}
use Rattle.kb_credit.specs.InvoiceEdits.{AreInvoices, issued}
use Rattle.kb_credit.proofs.KeptInvoices.{AreInvoices-issued}
use Rattle.kb_credit.proofs.KeptBeside.{AreKept-issued}
use Rattle.kb_credit.proofs.SumBounds.{small-issued}
use Rattle.kb_credit.proofs.invoices.Invoices.issue.Goals as goal

pub with_issued-requires : goal.with_issued-requires
with_issued-requires c =
    let rows_are = ap (λ (value : InvoicesValue). value.rows) c.self.view_is in
    record {
      small = small-issued c.args.self.now.rows c.args.lines.now c.self.inside.sums.charged
          c.issued_row-row.result.total
          (c.self.invariant.1.totals ∙ ap (sum_of (λ (row : Row). row.total)) rows_are)
          (ap (λ (row : Row). row.total) c.issued_row-row.ensures)
          c.requires.bounded;
    }

pub invariant_of-result : goal.invariant_of-result
invariant_of-result c =
    let inside = c.self.inside in
    let lines = c.args.lines.now in
    let count : c.len-number.result ≡ length inside.rows =
    c.len-number.ensures ∙ ap (λ (value : InvoicesValue). length value.rows) (sym c.self.view_is) in
    let rows_are : c.in_ok-push.field-0 ≡ inside.rows ++ _ ∷ [] =
    c.in_ok-push.ensures ∙ ap (λ row. inside.rows ++ row ∷ []) c.issued_row-row.ensures in
    let items_are : c.in_ok-with_lines.field-0
    ≡ inside.items ++ map (λ (line : Line). (length inside.rows + 1, line)) lines =
    c.in_ok-with_lines.ensures
    ∙ ap (λ number. inside.items ++ map (λ (line : Line). (number + 1, line)) lines) count in
    let before = subst AreInvoices c.self.view_is c.self.invariant.0 in
    let after = AreInvoices-issued c.args.self.now c.args.day lines before c.requires.room
    c.requires.bounded in
    let same = ap₂ (λ (rows : List Row) items. record { rows = rows; items = items }) rows_are items_are
    ∙ ap (λ (value : InvoicesValue). issued value c.args.day lines) c.self.view_is in (
      subst AreInvoices (sym same) after,
      rw (
        rows_are,
        c.in_ok-with_open.ensures,
        c.as_slice.ensures,
        c.with_issued.ensures,
        c.issued_row-row.ensures,
        count,
      )
          (AreKept-issued inside.rows inside.«open» inside.sums c.self.invariant.1 c.args.day
          (sum_of amount_of lines)),
    )
