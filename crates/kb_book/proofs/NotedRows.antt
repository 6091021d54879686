-- What is paid is noted on rows that are issued, and stays noted on levelled ones.
use Rattle.std.proofs.Common.{◌≡◌, ℕ, suc, ◌+◌, ◌<◌, ◌≤◌, Bool, true, false, ◌==◌, List, [], ◌∷◌, ◌++◌}
use Rattle.std.proofs.Common.{length, map, All, ℤ, pos, ◌+ℤ◌, ◌-ℤ◌, neg_ℤ, nat_abs, refl, ap, ap₂, sym, ◌∙◌}
use Rattle.std.proofs.Common.{arith}
use Rattle.std.proofs.lemmas.Bool.{eqb-true}
use Rattle.std.proofs.lemmas.List.Elements.{All-head, All-tail}
use Rattle.kb_sharing.specs.Sums.{sum_of}
use Rattle.kb_credit.specs.declared.row.Row.{Row}
use Rattle.kb_credit.specs.declared.line.Line.{Line}
use Rattle.kb_credit.specs.Items.{amount_of}
use Rattle.kb_credit.specs.Sizes.{size_of}
use Rattle.kb_credit.specs.InvoiceRows.{InvoicesValue, paid, credit}
use Rattle.kb_credit.specs.InvoiceEdits.{issued}
use Rattle.kb_credit.specs.Levelling.{adjust, made_on, with_made, used_on, with_used, levelled_rows}
use Rattle.kb_payment.specs.declared.attempt.Attempt.{Attempt}
use Rattle.kb_payment.specs.Attempts.{paid_by}
use Rattle.kb_payment.specs.PaymentSums.{PaymentsValue, paid_on}
use Rattle.kb_book.specs.Steps.{paid_from, with_paid}
use Rattle.kb_book.specs.BilledBooks.{paid_by_number}
use Rattle.kb_book.proofs.PaidRows.{noted}

module _ (payments : PaymentsValue) where
  -- as many rows
  pub length-paid_from : (number : ℕ) (rows : List Row)
      → length (paid_from payments number rows) ≡ length rows
  length-paid_from number [] = refl
  length-paid_from number (row ∷ rows) = ap suc (length-paid_from (number + 1) rows)

  -- what isn't paid stays
  pub sum_of-paid_from : (weight : Row → ℤ)
      → ((row : Row) (amount : ℤ) → weight (noted amount row) ≡ weight row)
      → (number : ℕ) (rows : List Row) → sum_of weight (paid_from payments number rows) ≡ sum_of weight rows
  sum_of-paid_from weight kept number [] = refl
  sum_of-paid_from weight kept number (row ∷ rows) =
      ap₂ (λ a b. a +ℤ b) (kept row (paid_on payments number))
      (sum_of-paid_from weight kept (number + 1) rows)

  pub size_of-paid_from : (weight : Row → ℤ)
      → ((row : Row) (amount : ℤ) → weight (noted amount row) ≡ weight row)
      → (number : ℕ) (rows : List Row) → size_of weight (paid_from payments number rows) ≡ size_of weight rows
  size_of-paid_from weight kept number [] = refl
  size_of-paid_from weight kept number (row ∷ rows) =
      ap₂ (λ a b. nat_abs a + b) (kept row (paid_on payments number))
      (size_of-paid_from weight kept (number + 1) rows)

  -- what all rows together have paid on them
  pub paid-paid_from : (number : ℕ) (rows : List Row)
      → paid (paid_from payments number rows) ≡ paid_by_number payments number rows
  paid-paid_from number [] = refl
  paid-paid_from number (row ∷ rows) =
      ap (λ later. paid_on payments number +ℤ later) (paid-paid_from (number + 1) rows)

  -- to note it twice is to note it once
  pub paid_from-twice : (number : ℕ) (rows : List Row)
      → paid_from payments number (paid_from payments number rows) ≡ paid_from payments number rows
  paid_from-twice number [] = refl
  paid_from-twice number (row ∷ rows) =
      ap (λ (later : List Row). noted (paid_on payments number) row ∷ later)
      (paid_from-twice (number + 1) rows)

  -- rows behind others
  paid_from-append : (number : ℕ) (rows more : List Row)
      → paid_from payments number (rows ++ more)
      ≡ paid_from payments number rows ++ paid_from payments (number + length rows) more
  paid_from-append number [] more = ap (λ n. paid_from payments n more) (omega arith)
  paid_from-append number (row ∷ rows) more =
      ap (λ (later : List Row). noted (paid_on payments number) row ∷ later)
      (paid_from-append (number + 1) rows more
      ∙ ap (λ n. paid_from payments (number + 1) rows ++ paid_from payments n more) (omega arith))

  -- a new invoice, where nothing is paid on its number
  pub with_paid-issued : (invoices : InvoicesValue) (day : ℕ) (lines : List Line)
      → paid_on payments (length invoices.rows + 1) ≡ pos 0
      → with_paid payments (issued invoices day lines) ≡ issued (with_paid payments invoices) day lines
  with_paid-issued invoices day lines none =
      let rows = invoices.rows in
      let row : Row = record { day = day; total = sum_of amount_of lines; adjusted = pos 0; paid = pos 0 } in
      let unpaid : paid_on payments (1 + length rows) ≡ pos 0 =
      ap (paid_on payments) (omega arith) ∙ none in
      ap₂ (λ (all : List Row) (items : List (ℕ × Line)). record { rows = all; items = items })
      (paid_from-append 1 rows (row ∷ [])
      ∙ ap (λ (amount : ℤ). paid_from payments 1 rows ++ noted amount row ∷ []) unpaid)
      (ap (λ count. invoices.items ++ map (λ line. (count + 1, line)) lines) (sym (length-paid_from 1 rows)))

  -- an adjusted row keeps what is noted
  noted-adjust : (amount more : ℤ) (row : Row) → noted amount row ≡ row
      → noted amount (adjust row more) ≡ adjust row more
  noted-adjust amount more row is = ap (λ (one : Row). noted one.paid (adjust row more)) is

  -- the first of noted rows, and those behind it
  first-noted : (number : ℕ) (row : Row) (rows : List Row)
      → paid_from payments number (row ∷ rows) ≡ row ∷ rows
      → noted (paid_on payments number) row ≡ row
  first-noted number row rows is = cc

  later-noted : (number : ℕ) (row : Row) (rows : List Row)
      → paid_from payments number (row ∷ rows) ≡ row ∷ rows
      → paid_from payments (number + 1) rows ≡ rows
  later-noted number row rows is = cc

  both_noted : (number : ℕ) (row : Row) (rows : List Row) → noted (paid_on payments number) row ≡ row
      → paid_from payments (number + 1) rows ≡ rows → paid_from payments number (row ∷ rows) ≡ row ∷ rows
  both_noted number row rows here later = ap₂ (λ (one : Row) (all : List Row). one ∷ all) here later

  -- both passes of a levelling
  noted-with_made : (number : ℕ) (rows : List Row) → paid_from payments number rows ≡ rows
      → paid_from payments number (map with_made rows) ≡ map with_made rows
  noted-with_made number [] is = refl
  noted-with_made number (row ∷ rows) is =
      both_noted number (with_made row) (map with_made rows)
      (noted-adjust (paid_on payments number) (made_on row) row (first-noted number row rows is))
      (noted-with_made (number + 1) rows (later-noted number row rows is))

  noted-with_used : (left : ℤ) (number : ℕ) (rows : List Row) → paid_from payments number rows ≡ rows
      → paid_from payments number (with_used left rows) ≡ with_used left rows
  noted-with_used left number [] is = refl
  noted-with_used left number (row ∷ rows) is =
      both_noted number (adjust row (neg_ℤ (used_on left row))) (with_used (left -ℤ used_on left row) rows)
      (noted-adjust (paid_on payments number) (neg_ℤ (used_on left row)) row (first-noted number row rows is))
      (noted-with_used (left -ℤ used_on left row) (number + 1) rows (later-noted number row rows is))

  pub noted-levelled_rows : (rows : List Row) → paid_from payments 1 rows ≡ rows
      → paid_from payments 1 (levelled_rows rows) ≡ levelled_rows rows
  noted-levelled_rows rows is =
      noted-with_used (credit (map with_made rows)) 1 (map with_made rows) (noted-with_made 1 rows is)

-- nothing is paid on an invoice past all that have an attempt
pub paid_on-past : (count asked : ℕ) (payments : PaymentsValue)
    → All (λ (entry : List ℕ × Attempt). entry.1.invoice ≤ count) payments → count < asked
    → paid_on payments asked ≡ pos 0
paid_on-past count asked [] invoiced past = refl
paid_on-past count asked (entry ∷ later) invoiced past =
    let low : entry.1.invoice ≤ count =
    All-head (λ (entry : List ℕ × Attempt). entry.1.invoice ≤ count) entry later invoiced in
    let rest = paid_on-past count asked later
    (All-tail (λ (entry : List ℕ × Attempt). entry.1.invoice ≤ count) entry later invoiced) past in
    let here : paid_by asked entry.1 ≡ pos 0 = by_test (entry.1.invoice == asked) refl low in
    ap₂ (λ a b. a +ℤ b) here rest
  where
    by_test : (same : Bool) → (entry.1.invoice == asked) ≡ same → entry.1.invoice ≤ count
        → paid_by asked entry.1 ≡ pos 0
    by_test true is low = absurd (omega (arith, eqb-true entry.1.invoice asked is))
    by_test false is low = rw is refl

-- so a new invoice keeps what is noted, where no attempt is on one that isn't there yet
pub with_paid-new : (payments : PaymentsValue) (invoices : InvoicesValue) (day : ℕ) (lines : List Line)
    → All (λ (entry : List ℕ × Attempt). entry.1.invoice ≤ length invoices.rows) payments
    → with_paid payments (issued invoices day lines) ≡ issued (with_paid payments invoices) day lines
with_paid-new payments invoices day lines invoiced =
    with_paid-issued payments invoices day lines
    (paid_on-past (length invoices.rows) (length invoices.rows + 1) payments invoiced (omega arith))
