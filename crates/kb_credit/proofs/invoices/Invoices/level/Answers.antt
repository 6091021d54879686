use Rattle.std.proofs.Common.{◌≡◌, ◌++◌, List, map, ap, ap₂, sym, subst, ◌∙◌, arith}
use Rattle.kb_credit.specs.declared.row.Row.{Row}
use Rattle.kb_credit.specs.InvoiceRows.{InvoicesValue, credit, unpaid}
use Rattle.kb_credit.specs.Levelling.{levelled_rows}
use Rattle.kb_credit.specs.InvoiceEdits.{AreInvoices, levelled}
use Rattle.kb_credit.specs.Private.AdjustedRows.{adjusted}
use Rattle.kb_credit.specs.Private.OpenInvoices.{opened}
use Rattle.kb_credit.specs.Private.Passes.{level_adjustments, item_of}
use Rattle.kb_credit.proofs.LevelledRows.{level_items-opened}
use Rattle.kb_credit.proofs.AdjustedInTurn.{adjusted-level}
use Rattle.kb_credit.proofs.AdjustedPlaces.{size_of-level}
use Rattle.kb_credit.proofs.ClosedForm.{All-AreWhole, AreWhole-levelled_rows, credit-levelled_rows}
use Rattle.kb_credit.proofs.ClosedForm.{unpaid-levelled}
use Rattle.kb_credit.proofs.LevelledTwice.{levelled-levelled, either_none}
use Rattle.kb_credit.proofs.KeptInvoices.{AreInvoices-levelled}
use Rattle.kb_credit.proofs.KeptBeside.{AreKept-levelled}
use Rattle.kb_credit.proofs.SumBounds.{small-levelled, small-open}
use Rattle.kb_credit.proofs.invoices.Invoices.level.Goals as goal

pub level_adjustments-requires : goal.level_adjustments-requires
level_adjustments-requires c =
    let inside = c.self.inside in
    let value : InvoicesValue = record { rows = inside.rows; items = inside.items } in
    record {
      whole = rw c.self.invariant.1.credits c.self.invariant.0.credited;
      bounded = rw c.as_slice.ensures
          (small-open value inside.«open» inside.sums c.self.invariant.0 c.self.invariant.1);
    }

pub adjusted-requires : goal.adjusted-requires
adjusted-requires c =
    let inside = c.self.inside in
    let value : InvoicesValue = record { rows = inside.rows; items = inside.items } in
    let same : c.deref.result.now ≡ level_adjustments (credit inside.rows) (opened 1 inside.rows) =
    c.deref.ensures.value ∙ c.in_ok-adjustments.ensures.adjustments
    ∙ ap₂ level_adjustments c.self.invariant.1.credits (c.as_slice.ensures ∙ c.self.invariant.1.opens) in
    let small = size_of-level value c.self.invariant.0 in
    let adjustments = c.self.invariant.0.adjustments in
    record { bounded = rw same (omega (arith, small, adjustments)) }

pub levelled-requires : goal.levelled-requires
levelled-requires c =
    let inside = c.self.inside in
    let value : InvoicesValue = record { rows = inside.rows; items = inside.items } in
    record { small = small-levelled value inside.«open» inside.sums c.self.invariant.0 c.self.invariant.1 }

-- the rows and the items after it
rows_are : (c : goal.After-levelled) → c.in_ok-adjusted.field-0 ≡ levelled_rows c.self.inside.rows
rows_are c =
    let inside = c.self.inside in
    c.in_ok-adjusted.ensures
    ∙ ap (λ all. adjusted all inside.rows)
    (c.deref.ensures.value ∙ c.in_ok-adjustments.ensures.adjustments
    ∙ ap₂ level_adjustments c.self.invariant.1.credits (c.as_slice.ensures ∙ c.self.invariant.1.opens))
    ∙ adjusted-level inside.rows c.self.invariant.0.credited

whole_is : (c : goal.After-levelled)
    → record { rows = c.in_ok-adjusted.field-0; items = c.in_ok-with_items.field-0 }
    ≡ levelled c.args.self.now
whole_is c =
    let inside = c.self.inside in
    ap₂ (λ (rows : List Row) items. record { rows = rows; items = items })
    (rows_are c)
    (c.in_ok-with_items.ensures
    ∙ ap (λ all. inside.items ++ map item_of all)
    (c.deref-2.ensures.value ∙ c.in_ok-adjustments.ensures.adjustments
    ∙ ap₂ level_adjustments c.self.invariant.1.credits (c.as_slice.ensures ∙ c.self.invariant.1.opens))
    ∙ ap (λ more. inside.items ++ more) (level_items-opened inside.rows c.self.invariant.0.credited))
    ∙ ap levelled c.self.view_is

pub invariant_of-result : goal.invariant_of-result
invariant_of-result c =
    let inside = c.self.inside in
    let before = subst AreInvoices c.self.view_is c.self.invariant.0 in (
      subst AreInvoices (sym (whole_is c)) (AreInvoices-levelled c.args.self.now before),
      rw (rows_are c, c.in_ok-adjustments.ensures.still, c.as_slice.ensures, c.levelled.ensures)
          (AreKept-levelled inside.rows inside.«open» inside.sums c.self.invariant.1
          c.self.invariant.0.credited),
    )

pub returns : goal.returns
returns c =
    let rows = c.args.self.now.rows in
    let are = subst AreInvoices c.self.view_is c.self.invariant.0 in
    let whole = whole_is c.before in
    let now_are : c.in_ok-adjusted.field-0 ≡ levelled_rows rows =
    ap (λ (value : InvoicesValue). value.rows) whole in
    record {
      levelled = whole;
      no_negative = rw now_are (All-AreWhole (levelled_rows rows) (AreWhole-levelled_rows rows));
      credit = ap credit now_are ∙ credit-levelled_rows rows are.credited;
      unpaid = ap unpaid now_are ∙ unpaid-levelled rows are.credited;
      one_side = rw now_are (either_none rows are.credited);
      again = ap levelled whole ∙ levelled-levelled c.args.self.now are.credited ∙ sym whole;
    }
