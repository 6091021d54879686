-- Open invoices of rows.
use Rattle.std.proofs.Common.{◌≡◌, ℕ, zero, suc, ◌+◌, ◌<◌, ◌≤◌, List, [], ◌∷◌, ◌++◌, ℤ, pos, negsuc, ◌+ℤ◌}
use Rattle.std.proofs.Common.{◌-ℤ◌}
use Rattle.std.proofs.Common.{length, slice_get, Some, refl, ap, ap₂, ◌∙◌, sym, arith, nat_lt, true, false}
use Rattle.std.proofs.Common.{Bool, lt-ltb, le-ltb}
use Rattle.std.specs.List.{filter}
use Rattle.std.proofs.lemmas.Int.{ints}
use Rattle.kb_credit.specs.declared.row.Row.{Row}
use Rattle.kb_credit.specs.declared.open_invoice.OpenInvoice.{OpenInvoice}
use Rattle.kb_credit.specs.InvoiceRows.{balance_of}
use Rattle.kb_credit.specs.InvoiceEdits.{paid_at}
use Rattle.kb_credit.specs.Private.OpenInvoices.{opening, opened, reopened}

-- an open invoice in front of two parts
pub opening-append : (invoice day : ℕ) (balance : ℤ) (front back : List OpenInvoice)
    → opening invoice day balance (front ++ back) ≡ opening invoice day balance front ++ back
opening-append invoice day (pos zero) front back = refl
opening-append invoice day (pos (suc n)) front back = refl
opening-append invoice day (negsuc n) front back = refl

-- rows in two parts
pub opened-append : (invoice : ℕ) (front back : List Row)
    → opened invoice (front ++ back) ≡ opened invoice front ++ opened (invoice + length front) back
opened-append invoice [] back = ap (λ n. opened n back) (omega arith)
opened-append invoice (row ∷ front) back =
    ap (opening invoice row.day (balance_of row))
    (opened-append (invoice + 1) front back
    ∙ ap (λ n. opened (invoice + 1) front ++ opened n back)
    (let e : invoice + 1 + length front ≡ invoice + suc (length front) = omega arith in e))
    ∙ opening-append invoice row.day (balance_of row) (opened (invoice + 1) front)
    (opened (invoice + suc (length front)) back)

-- which of an open invoice in front of others stay
pub filter-opening : (keeps : ℕ → Bool) (invoice day : ℕ) (balance : ℤ) (later : List OpenInvoice)
    → keeps invoice ≡ true
    → filter (λ (other : OpenInvoice). keeps other.invoice) (opening invoice day balance later)
    ≡ opening invoice day balance (filter (λ (other : OpenInvoice). keeps other.invoice) later)
filter-opening keeps invoice day (pos zero) later kept = refl
filter-opening keeps invoice day (pos (suc n)) later kept = rw kept
filter-opening keeps invoice day (negsuc n) later kept = rw kept

pub filter_dropped : (keeps : ℕ → Bool) (invoice day : ℕ) (balance : ℤ) (later : List OpenInvoice)
    → keeps invoice ≡ false
    → filter (λ (other : OpenInvoice). keeps other.invoice) (opening invoice day balance later)
    ≡ filter (λ (other : OpenInvoice). keeps other.invoice) later
filter_dropped keeps invoice day (pos zero) later dropped = refl
filter_dropped keeps invoice day (pos (suc n)) later dropped = rw dropped
filter_dropped keeps invoice day (negsuc n) later dropped = rw dropped

-- no row has a number below the first, and each one has a number from there on
pub filter_none_below : (number invoice : ℕ) (rows : List Row) → number ≤ invoice
    → filter (λ (other : OpenInvoice). nat_lt other.invoice number) (opened invoice rows) ≡ []
filter_none_below number invoice [] low = refl
filter_none_below number invoice (row ∷ rows) low =
    filter_dropped (λ n. nat_lt n number) invoice row.day (balance_of row) (opened (invoice + 1) rows)
    (le-ltb invoice number low)
    ∙ filter_none_below number (invoice + 1) rows (omega (arith, low))

pub filter_all_above : (number invoice : ℕ) (rows : List Row) → number < invoice
    → filter (λ (other : OpenInvoice). nat_lt number other.invoice) (opened invoice rows)
    ≡ opened invoice rows
filter_all_above number invoice [] low = refl
filter_all_above number invoice (row ∷ rows) low =
    filter-opening (λ n. nat_lt number n) invoice row.day (balance_of row) (opened (invoice + 1) rows)
    (lt-ltb number invoice low)
    ∙ ap (opening invoice row.day (balance_of row))
    (filter_all_above number (invoice + 1) rows (omega (arith, low)))

-- a payment on a row moves its balance
pub balance_of-paid : (row : Row) (amount : ℤ)
    → balance_of (record row { paid = row.paid +ℤ amount }) ≡ balance_of row -ℤ amount
balance_of-paid row amount = omega (arith, ints)

-- what is paid on one row moves
pub opened-paid_at : (invoice place number : ℕ) (amount : ℤ) (row : Row) (rows : List Row)
    → slice_get rows place ≡ Some row → number ≡ invoice + place
    → opened invoice (paid_at place amount rows)
    ≡ reopened (record { invoice = number; day = row.day; balance = balance_of row -ℤ amount })
    (opened invoice rows)
opened-paid_at invoice place number amount row [] is at = absurd (cc)
opened-paid_at invoice zero number amount row (first ∷ rows) is at =
    let same : first ≡ row = cc in
    let here : number ≡ invoice = omega (arith, at) in
    rw (
      here,
      same,
      balance_of-paid row amount,
      filter_dropped (λ n. nat_lt n invoice) invoice row.day (balance_of row) (opened (invoice + 1) rows)
          (le-ltb invoice invoice (omega arith)),
      filter_none_below invoice (invoice + 1) rows (omega arith),
      filter_dropped (λ n. nat_lt invoice n) invoice row.day (balance_of row) (opened (invoice + 1) rows)
          (le-ltb invoice invoice (omega arith)),
      filter_all_above invoice (invoice + 1) rows (omega arith),
    )
opened-paid_at invoice (suc place) number amount row (first ∷ rows) is at =
    let later = opened-paid_at (invoice + 1) place number amount row rows is (omega (arith, at)) in
    let below = filter (λ (other : OpenInvoice). nat_lt other.invoice number) (opened (invoice + 1) rows) in
    ap (opening invoice first.day (balance_of first)) later
    ∙ opening-append invoice first.day (balance_of first) below
    (opening number row.day (balance_of row -ℤ amount)
    (filter (λ (other : OpenInvoice). nat_lt number other.invoice) (opened (invoice + 1) rows)))
    ∙ ap₂ (λ front back. front ++ opening number row.day (balance_of row -ℤ amount) back)
    (sym (filter-opening (λ n. nat_lt n number) invoice first.day (balance_of first)
    (opened (invoice + 1) rows) (lt-ltb invoice number (omega (arith, at)))))
    (sym (filter_dropped (λ n. nat_lt number n) invoice first.day (balance_of first)
    (opened (invoice + 1) rows) (le-ltb number invoice (omega (arith, at)))))
