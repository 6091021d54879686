-- The invoices of a command that is accepted: their items go on from those before, and they total what is on
-- their lines more.
use Rattle.std.proofs.Common.{◌≡◌, ℕ, ◌+◌, List, [], ◌∷◌, ◌++◌, length, map, pos, ◌+ℤ◌, ◌-ℤ◌, ◌≤ℤ◌, refl, ap}
use Rattle.std.proofs.Common.{sym, ◌∙◌, append_assoc, append-nil, arith}
use Rattle.std.proofs.lemmas.Int.{ints}
use Rattle.std.specs.Int.{int_max}
use Rattle.kb_sharing.specs.Sums.{sum_of}
use Rattle.kb_sharing.proofs.MemberSums.{sum_of-push}
use Rattle.kb_credit.specs.declared.row.Row.{Row}
use Rattle.kb_credit.specs.declared.line.Line.{Line}
use Rattle.kb_credit.specs.Items.{amount_of}
use Rattle.kb_credit.specs.InvoiceRows.{InvoicesValue, charged, paid, credit, unpaid}
use Rattle.kb_credit.specs.InvoiceEdits.{levelled}
use Rattle.kb_credit.specs.Levelling.{level_items, levelled_rows}
use Rattle.kb_credit.proofs.ClosedForm.{charged-levelled_rows, paid-levelled_rows, credit-levelled_rows}
use Rattle.kb_credit.proofs.ClosedForm.{unpaid-levelled}
use Rattle.kb_payment.specs.PaymentSums.{PaymentsValue}
use Rattle.kb_book.specs.Steps.{with_invoice, with_paid, paid_from}
use Rattle.kb_book.specs.BilledBooks.{paid_by_number}
use Rattle.kb_book.proofs.NotedRows.{sum_of-paid_from, paid-paid_from, noted-levelled_rows, paid_from-twice}

-- invoices once new lines are issued, what is paid is noted, and all are levelled
abbrev pub billed_rows : PaymentsValue → InvoicesValue → ℕ → List Line → InvoicesValue
billed_rows payments invoices today lines = levelled (with_paid payments (with_invoice invoices today lines))

-- an invoice of some lines charges them
charged-with_invoice : (invoices : InvoicesValue) (today : ℕ) (lines : List Line)
    → charged (with_invoice invoices today lines).rows ≡ charged invoices.rows +ℤ sum_of amount_of lines
charged-with_invoice invoices today [] = omega (arith, ints)
charged-with_invoice invoices today (line ∷ later) =
    sum_of-push (λ (row : Row). row.total) invoices.rows
    (record { day = today; total = sum_of amount_of (line ∷ later); adjusted = pos 0; paid = pos 0 })

-- and no credit
credit-with_invoice : (invoices : InvoicesValue) (today : ℕ) (lines : List Line)
    → credit (with_invoice invoices today lines).rows ≡ credit invoices.rows
credit-with_invoice invoices today [] = refl
credit-with_invoice invoices today (line ∷ later) =
    let more = sum_of-push (λ (row : Row). row.adjusted) invoices.rows
    (record { day = today; total = sum_of amount_of (line ∷ later); adjusted = pos 0; paid = pos 0 }) in
    omega (arith, ints, more)

-- the invoices total what is on their lines more
pub charged-billed_rows : (payments : PaymentsValue) (invoices : InvoicesValue) (today : ℕ)
    (lines : List Line)
    → charged (billed_rows payments invoices today lines).rows
    ≡ charged invoices.rows +ℤ sum_of amount_of lines
charged-billed_rows payments invoices today lines =
    let rows = (with_invoice invoices today lines).rows in
    charged-levelled_rows (paid_from payments 1 rows)
    ∙ sum_of-paid_from payments (λ (row : Row). row.total) (λ row amount. refl) 1 rows
    ∙ charged-with_invoice invoices today lines

-- what is paid on them is noted
pub billed_rows-noted : (payments : PaymentsValue) (invoices : InvoicesValue) (today : ℕ) (lines : List Line)
    → paid_from payments 1 (billed_rows payments invoices today lines).rows
    ≡ (billed_rows payments invoices today lines).rows
billed_rows-noted payments invoices today lines =
    let rows = (with_invoice invoices today lines).rows in
    noted-levelled_rows payments (paid_from payments 1 rows) (paid_from-twice payments 1 rows)

-- so it is what payments say
paid-billed_rows : (payments : PaymentsValue) (invoices : InvoicesValue) (today : ℕ) (lines : List Line)
    → paid_by_number payments 1 (billed_rows payments invoices today lines).rows
    ≡ paid (paid_from payments 1 (with_invoice invoices today lines).rows)
paid-billed_rows payments invoices today lines =
    let rows = (with_invoice invoices today lines).rows in
    sym (paid-paid_from payments 1 (billed_rows payments invoices today lines).rows)
    ∙ ap paid (billed_rows-noted payments invoices today lines)
    ∙ paid-levelled_rows (paid_from payments 1 rows)

-- the credit before they are levelled is that of the invoices before
pub credit-noted : (payments : PaymentsValue) (invoices : InvoicesValue) (today : ℕ) (lines : List Line)
    → credit (with_paid payments (with_invoice invoices today lines)).rows ≡ credit invoices.rows
credit-noted payments invoices today lines =
    sum_of-paid_from payments (λ (row : Row). row.adjusted) (λ row amount. refl) 1
    (with_invoice invoices today lines).rows
    ∙ credit-with_invoice invoices today lines

-- credit is by how much payments exceed what is charged, where none was owed
pub credit-billed_rows : (payments : PaymentsValue) (invoices : InvoicesValue) (today : ℕ) (lines : List Line)
    → pos 0 ≤ℤ credit invoices.rows
    → credit (billed_rows payments invoices today lines).rows
    ≡ int_max (pos 0) (paid_by_number payments 1 (billed_rows payments invoices today lines).rows
    -ℤ charged (billed_rows payments invoices today lines).rows)
credit-billed_rows payments invoices today lines least =
    let rows = (with_paid payments (with_invoice invoices today lines)).rows in
    let before = credit-noted payments invoices today lines in
    credit-levelled_rows rows (omega (arith, ints, before))
    ∙ ap (λ sum. int_max (pos 0) (sum -ℤ charged rows)) (sym (paid-billed_rows payments invoices today lines))
    ∙ ap (λ sum. int_max (pos 0) (paid_by_number payments 1 (levelled_rows rows) -ℤ sum))
    (sym (charged-levelled_rows rows))

-- and what is unpaid by how much charges exceed payments
pub unpaid-billed_rows : (payments : PaymentsValue) (invoices : InvoicesValue) (today : ℕ) (lines : List Line)
    → pos 0 ≤ℤ credit invoices.rows
    → unpaid (billed_rows payments invoices today lines).rows
    ≡ int_max (pos 0) (charged (billed_rows payments invoices today lines).rows
    -ℤ paid_by_number payments 1 (billed_rows payments invoices today lines).rows)
unpaid-billed_rows payments invoices today lines least =
    let rows = (with_paid payments (with_invoice invoices today lines)).rows in
    let before = credit-noted payments invoices today lines in
    unpaid-levelled rows (omega (arith, ints, before))
    ∙ ap (λ sum. int_max (pos 0) (charged rows -ℤ sum)) (sym (paid-billed_rows payments invoices today lines))
    ∙ ap (λ sum. int_max (pos 0) (sum -ℤ paid_by_number payments 1 (levelled_rows rows)))
    (sym (charged-levelled_rows rows))

-- an invoice's items are added to those before
with_invoice-items : (invoices : InvoicesValue) (today : ℕ) (lines : List Line)
    → (more : List (ℕ × Line)) × ((with_invoice invoices today lines).items ≡ invoices.items ++ more)
with_invoice-items invoices today [] = ([], sym (append-nil invoices.items))
with_invoice-items invoices today (line ∷ later) =
    (map (λ line. (length invoices.rows + 1, line)) (line ∷ later), refl)

-- so are those of all that is billed
pub billed_rows-items : (payments : PaymentsValue) (invoices : InvoicesValue) (today : ℕ) (lines : List Line)
    → (more : List (ℕ × Line)) × ((billed_rows payments invoices today lines).items ≡ invoices.items ++ more)
billed_rows-items payments invoices today lines =
    let made = with_invoice-items invoices today lines in
    let levels = level_items (paid_from payments 1 (with_invoice invoices today lines).rows) in (
      made.0 ++ levels,
      ap (λ items. items ++ levels) made.1 ∙ append_assoc invoices.items made.0 levels,
    )
