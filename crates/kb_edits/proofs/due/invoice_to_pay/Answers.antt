use Rattle.std.proofs.Common.{◌≡◌, ◌<◌, nat_lt, true, false, Some, None, ap, sym, ◌∙◌, arith}
use Rattle.std.specs.List.{find}
use Rattle.std.proofs.lemmas.Bool.{ltb-true}
use Rattle.kb_credit.specs.InvoiceRows.{unpaid_numbers}
use Rattle.kb_book.specs.Inner as told
use Rattle.kb_edits.proofs.UnpaidNumbers.{find-passes, find-filter_none, find-filter_first}
use Rattle.kb_edits.proofs.UnpaidNumbers.{filter-unpaid_numbers, find-unpaid_numbers}
use Rattle.kb_edits.proofs.due.invoice_to_pay.Goals as goal

-- all numbers come after 0
pub loop-invoice-init : goal.loop-invoice-init
loop-invoice-init c =
    ap (find (told.may_be_paid c.args.payments.now c.args.today))
    (filter-unpaid_numbers 0 1 c.args.invoices.now.rows (omega arith))

-- the first one after the last that may be paid is the first one of all
pub returns-then-may_be_paid : goal.returns-then-may_be_paid
returns-then-may_be_paid c =
    let next : find (nat_lt c.loop-invoice.last) (unpaid_numbers 1 c.args.invoices.now.rows)
    ≡ Some c.in-Some.invoice = cc in
    let passes : told.may_be_paid c.args.payments.now c.args.today c.in-Some.invoice ≡ true = cc in
    sym (find-filter_first (nat_lt c.loop-invoice.last) (told.may_be_paid c.args.payments.now c.args.today)
    (unpaid_numbers 1 c.args.invoices.now.rows) c.in-Some.invoice next passes)
    ∙ c.loop-invoice.invariant

-- numbers rise, and have a bound
pub loop-invoice-smaller : goal.loop-invoice-smaller
loop-invoice-smaller c =
    let next : find (nat_lt c.loop-invoice.last) (unpaid_numbers 1 c.args.invoices.now.rows)
    ≡ Some c.in-Some.invoice = cc in
    let later : c.loop-invoice.last < c.in-Some.invoice = ltb-true c.loop-invoice.last c.in-Some.invoice
    (find-passes (nat_lt c.loop-invoice.last) (unpaid_numbers 1 c.args.invoices.now.rows)
    c.in-Some.invoice next) in
    omega arith

-- one that may not be paid is passed over
pub loop-invoice-preserved : goal.loop-invoice-preserved
loop-invoice-preserved c =
    let next : find (nat_lt c.loop-invoice.last) (unpaid_numbers 1 c.args.invoices.now.rows)
    ≡ Some c.in-Some.invoice = cc in
    let fails : told.may_be_paid c.args.payments.now c.args.today c.in-Some.invoice ≡ false = cc in
    sym (find-unpaid_numbers (told.may_be_paid c.args.payments.now c.args.today) c.loop-invoice.last
    c.in-Some.invoice 1 c.args.invoices.now.rows next fails)
    ∙ c.loop-invoice.invariant

-- none is left
pub returns : goal.returns
returns c =
    let next : find (nat_lt c.loop-invoice.last) (unpaid_numbers 1 c.args.invoices.now.rows) ≡ None = cc in
    sym (find-filter_none (nat_lt c.loop-invoice.last) (told.may_be_paid c.args.payments.now c.args.today)
    (unpaid_numbers 1 c.args.invoices.now.rows) next)
    ∙ c.loop-invoice.invariant
