-- What is paid on rows is what payments say.
use Rattle.std.proofs.Common.{◌≡◌, ℕ, zero, suc, ◌+◌, ◌-◌, ◌<◌, ◌≤◌, Bool, true, false, ◌==◌, List, [], ◌∷◌}
use Rattle.std.proofs.Common.{ℤ, ◌+ℤ◌, refl, ap, ◌∙◌, arith}
use Rattle.std.proofs.lemmas.Int.{ints}
use Rattle.std.proofs.lemmas.Bool.{eq-eqb, eqb-true}
use Rattle.kb_credit.specs.declared.row.Row.{Row}
use Rattle.kb_credit.specs.InvoiceRows.{InvoicesValue}
use Rattle.kb_credit.specs.InvoiceEdits.{paid_at}
use Rattle.kb_credit.specs.InvoiceEdits as edits
use Rattle.kb_payment.specs.PaymentSums.{PaymentsValue, paid_on, Moves}
use Rattle.kb_book.specs.Steps.{paid_from, with_paid}

-- a row with what is paid on it
abbrev pub noted : ℤ → Row → Row
noted amount row = record row { paid = amount }

-- where payments move on an invoice that isn't there, they note the same
paid_from-apart : (old new : PaymentsValue) (invoice : ℕ) (amount : ℤ) → Moves old new invoice amount
    → (number : ℕ) (rows : List Row) → invoice < number
    → paid_from new number rows ≡ paid_from old number rows
paid_from-apart old new invoice amount moves number [] before = refl
paid_from-apart old new invoice amount moves number (row ∷ rows) before =
    let here = ap (λ (amount : ℤ). noted amount row) (stays (invoice == number) refl) in
    let later = paid_from-apart old new invoice amount moves (number + 1) rows (omega arith) in
    cc
  where
    stays : (same : Bool) → (invoice == number) ≡ same → paid_on new number ≡ paid_on old number
    stays true is = absurd (omega (arith, eqb-true invoice number is))
    stays false is = moves number ∙ rw is (omega (arith, ints))

-- where they move on one that is there, the row of that number moves
paid_from-moved : (old new : PaymentsValue) (invoice : ℕ) (amount : ℤ) → Moves old new invoice amount
    → (place number : ℕ) (rows : List Row) → number + place ≡ invoice
    → paid_from new number rows ≡ paid_at place amount (paid_from old number rows)
paid_from-moved old new invoice amount moves place number [] at = refl
paid_from-moved old new invoice amount moves zero number (row ∷ rows) at =
    let same : invoice ≡ number = omega arith in
    let more : paid_on new number ≡ paid_on old number +ℤ amount =
    moves number ∙ rw (eq-eqb invoice number same) refl in
    let here = ap (λ (sum : ℤ). noted sum row) more in
    let later = paid_from-apart old new invoice amount moves (number + 1) rows (omega arith) in
    cc
paid_from-moved old new invoice amount moves (suc place) number (row ∷ rows) at =
    let here = ap (λ (sum : ℤ). noted sum row) (stays (invoice == number) refl) in
    let later = paid_from-moved old new invoice amount moves place (number + 1) rows (omega arith) in
    cc
  where
    stays : (same : Bool) → (invoice == number) ≡ same → paid_on new number ≡ paid_on old number
    stays true is = absurd (omega (arith, eqb-true invoice number is))
    stays false is = moves number ∙ rw is (omega (arith, ints))

-- the invoice of the number has that much more paid on it
pub with_paid-moved : (old new : PaymentsValue) (invoices : InvoicesValue) (invoice : ℕ) (amount : ℤ)
    → Moves old new invoice amount → 1 ≤ invoice → with_paid old invoices ≡ invoices
    → with_paid new invoices ≡ edits.paid_on invoices invoice amount
with_paid-moved old new invoices invoice amount moves some is =
    ap (λ (rows : List Row). record invoices { rows = rows })
    (paid_from-moved old new invoice amount moves (invoice - 1) 1 invoices.rows (omega arith))
    ∙ ap (λ (before : InvoicesValue). edits.paid_on before invoice amount) is

pub with_paid-none : (old new : PaymentsValue) (invoices : InvoicesValue) (amount : ℤ)
    → Moves old new 0 amount
    → with_paid old invoices ≡ invoices → with_paid new invoices ≡ invoices
with_paid-none old new invoices amount moves is =
    ap (λ (rows : List Row). record invoices { rows = rows })
    (paid_from-apart old new 0 amount moves 1 invoices.rows (omega arith))
    ∙ is
