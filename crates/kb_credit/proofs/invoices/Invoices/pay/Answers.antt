use Rattle.std.proofs.Common.{◌≡◌, ℕ, ℤ, ◌+◌, ◌-◌, ◌≤◌, ◌+ℤ◌, List, set, ap, ap₂, sym, subst, ◌∙◌, arith}
use Rattle.std.proofs.Common.{to_z, of_z, to_z-of_z}
use Rattle.std.specs.Int.{w128}
use Rattle.kb_credit.specs.Sizes.{size_of}
use Rattle.kb_credit.specs.declared.row.Row.{Row}
use Rattle.kb_credit.specs.InvoiceRows.{InvoicesValue}
use Rattle.kb_credit.specs.InvoiceEdits.{AreInvoices, max_sum, paid_at, paid_on}
use Rattle.kb_credit.proofs.KeptInvoices.{AreInvoices-paid_on}
use Rattle.kb_credit.proofs.KeptBeside.{AreKept-paid}
use Rattle.kb_credit.proofs.PaidRows.{nat_abs-paid_at, set-paid_at}
use Rattle.kb_credit.proofs.SumBounds.{IsSmall-paid, small-paid}
use Rattle.kb_credit.proofs.invoices.Invoices.pay.Goals as goal

-- the payments after it are small, said of the rows inside
bounded_inside : (value now : InvoicesValue) (place number : ℕ) (amount : ℤ) → value ≡ now
    → place ≡ number - 1
    → size_of (λ (row : Row). row.paid) (paid_at (number - 1) amount now.rows) ≤ max_sum
    → size_of (λ (row : Row). row.paid) (paid_at place amount value.rows) ≤ max_sum
bounded_inside value now place number amount same at bounded = rw (same, at) bounded

-- the rows and the items after it
whole_is : (c : goal.In_ok-replace)
    → record { rows = c.in_ok-replace.field-0; items = c.in_ok-share.field-0 }
    ≡ paid_on c.args.self.now c.args.invoice c.args.amount
whole_is c =
    let inside = c.self.inside in
    let row = c.in-Some.row.now in
    let place = c.from-place.result in
    let amount = c.args.amount in
    let changed : c.paid_row-changed.result ≡ record row { paid = row.paid +ℤ amount } =
    c.paid_row-changed.ensures
    ∙ ap (λ a. record row { paid = row.paid +ℤ a }) (to_z-of_z c.ranges.amount) in
    ap₂ (λ (rows : List Row) items. record { rows = rows; items = items })
    (c.in_ok-replace.ensures ∙ ap (set inside.rows place) changed
    ∙ set-paid_at place amount row inside.rows (sym c.in-Some.ensures)
    ∙ ap (λ at. paid_at at amount inside.rows) c.from-place.ensures)
    c.in_ok-share.ensures
    ∙ ap (λ (value : InvoicesValue). paid_on value c.args.invoice amount) c.self.view_is

pub paid_row-changed-requires : goal.paid_row-changed-requires
paid_row-changed-requires c =
    let inside = c.self.inside in
    let value : InvoicesValue = record { rows = inside.rows; items = inside.items } in
    let bounded = bounded_inside value c.args.self.now c.from-place.result c.args.invoice c.args.amount
    c.self.view_is c.from-place.ensures c.requires.bounded in
    let small = nat_abs-paid_at c.from-place.result c.args.amount c.in-Some.row.now inside.rows
    (sym c.in-Some.ensures) in
    record { small = rw (to_z-of_z c.ranges.amount) (omega (arith, small, bounded)) }

pub open_invoice-now-requires : goal.open_invoice-now-requires
open_invoice-now-requires c =
    let inside = c.self.inside in
    let value : InvoicesValue = record { rows = inside.rows; items = inside.items } in
    let bounded = bounded_inside value c.args.self.now c.from-place.result c.args.invoice c.args.amount
    c.self.view_is c.from-place.ensures c.requires.bounded in
    record {
      small = rw (c.paid_row-changed.ensures, to_z-of_z c.ranges.amount)
          (IsSmall-paid value c.from-place.result c.args.amount c.in-Some.row.now c.self.invariant.0
          (sym c.in-Some.ensures) bounded);
    }

pub with_paid-requires : goal.with_paid-requires
with_paid-requires c =
    let inside = c.self.inside in
    let value : InvoicesValue = record { rows = inside.rows; items = inside.items } in
    let bounded = bounded_inside value c.args.self.now c.from-place.result c.args.invoice c.args.amount
    c.self.view_is c.from-place.ensures c.requires.bounded in
    record {
      small = rw (to_z-of_z c.ranges.amount)
          (small-paid inside.rows c.from-place.result c.args.amount inside.sums.paid c.in-Some.row.now
          c.self.invariant.1.pays (sym c.in-Some.ensures) bounded);
    }

pub invariant_of-result : goal.invariant_of-result
invariant_of-result c =
    let inside = c.self.inside in
    let row = c.in-Some.row.now in
    let place = c.from-place.result in
    let amount = c.args.amount in
    let same : to_z w128 (of_z w128 amount) ≡ amount = to_z-of_z c.ranges.amount in
    let changed : c.paid_row-changed.result ≡ record row { paid = row.paid +ℤ amount } =
    c.paid_row-changed.ensures ∙ ap (λ a. record row { paid = row.paid +ℤ a }) same in
    let rows_are : c.in_ok-replace.field-0 ≡ paid_at place amount inside.rows =
    c.in_ok-replace.ensures ∙ ap (set inside.rows place) changed
    ∙ set-paid_at place amount row inside.rows (sym c.in-Some.ensures) in
    let at : c.args.invoice ≡ 1 + place =
    (let is = c.from-place.ensures in let low = c.requires.numbered in omega arith) in
    let before = subst AreInvoices c.self.view_is c.self.invariant.0 in
    let after = AreInvoices-paid_on c.args.self.now c.args.invoice amount before c.requires.bounded in (
      subst AreInvoices (sym (whole_is c)) after,
      rw (
        rows_are,
        c.in_ok-reopened.ensures,
        c.as_slice.ensures,
        c.open_invoice-now.ensures,
        changed,
        c.with_paid.ensures,
        same,
      )
          (AreKept-paid inside.rows inside.«open» inside.sums c.self.invariant.1 place c.args.invoice amount
          row
          (sym c.in-Some.ensures) at),
    )

pub returns : goal.returns
returns c = record { paid = whole_is c }
