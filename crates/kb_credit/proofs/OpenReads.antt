-- What open invoices tell of the rows.
use Rattle.std.proofs.Common.{◌≡◌, ℕ, zero, suc, ◌+◌, ◌≤◌, Bool, true, false, cond, nat_lt, List, [], ◌∷◌}
use Rattle.std.proofs.Common.{ℤ, pos}
use Rattle.std.proofs.Common.{negsuc, ◌+ℤ◌, int_lt, nat_abs, length, map, refl, ap}
use Rattle.std.proofs.Common.{◌∙◌, sym, arith}
use Rattle.std.specs.List.{filter, find}
use Rattle.std.specs.Int.{int_max}
use Rattle.std.proofs.lemmas.Int.{ints}
use Rattle.std.proofs.lemmas.List.{length-map}
use Rattle.kb_credit.specs.Sizes.{size_of}
use Rattle.kb_credit.specs.declared.row.Row.{Row}
use Rattle.kb_credit.specs.declared.open_invoice.OpenInvoice.{OpenInvoice}
use Rattle.kb_credit.specs.InvoiceRows.{balance_of, is_unpaid, unpaid_of, unpaid, unpaid_count}
use Rattle.kb_credit.specs.InvoiceRows.{unpaid_numbers}
use Rattle.kb_credit.specs.InvoiceRows.{least, earliest_unpaid, next_unpaid}
use Rattle.kb_credit.specs.Private.OpenInvoices.{opening, opened, is_due, due_sum, due_count, due_days}
use Rattle.kb_credit.specs.Private.OpenInvoices.{next_due}

-- the size of the balances
size_of-opening : (invoice day : ℕ) (balance : ℤ) (later : List OpenInvoice)
    → size_of (λ (one : OpenInvoice). one.balance) (opening invoice day balance later)
    ≡ nat_abs balance + size_of (λ (one : OpenInvoice). one.balance) later
size_of-opening invoice day (pos zero) later = omega arith
size_of-opening invoice day (pos (suc n)) later = refl
size_of-opening invoice day (negsuc n) later = refl

pub size_of-opened : (invoice : ℕ) (rows : List Row)
    → size_of (λ (one : OpenInvoice). one.balance) (opened invoice rows) ≡ size_of balance_of rows
size_of-opened invoice [] = refl
size_of-opened invoice (row ∷ rows) =
    size_of-opening invoice row.day (balance_of row) (opened (invoice + 1) rows)
    ∙ ap (λ later. nat_abs (balance_of row) + later) (size_of-opened (invoice + 1) rows)

-- how many are open
length-opening : (invoice day : ℕ) (balance : ℤ) (later : List OpenInvoice)
    → length (opening invoice day balance later) ≤ suc (length later)
length-opening invoice day (pos zero) later = omega arith
length-opening invoice day (pos (suc n)) later = omega arith
length-opening invoice day (negsuc n) later = omega arith

pub length-opened : (invoice : ℕ) (rows : List Row) → length (opened invoice rows) ≤ length rows
length-opened invoice [] = omega arith
length-opened invoice (row ∷ rows) =
    let here = length-opening invoice row.day (balance_of row) (opened (invoice + 1) rows) in
    let later = length-opened (invoice + 1) rows in
    omega arith

-- what is due
due_sum-opening : (invoice day : ℕ) (balance : ℤ) (later : List OpenInvoice)
    → due_sum (opening invoice day balance later) ≡ int_max (pos 0) balance +ℤ due_sum later
due_sum-opening invoice day (pos zero) later =
    let sum = due_sum later in let e : sum ≡ pos 0 +ℤ sum = omega (arith, ints) in e
due_sum-opening invoice day (pos (suc n)) later = refl
due_sum-opening invoice day (negsuc n) later = refl

pub due_sum-opened : (invoice : ℕ) (rows : List Row) → due_sum (opened invoice rows) ≡ unpaid rows
due_sum-opened invoice [] = refl
due_sum-opened invoice (row ∷ rows) =
    due_sum-opening invoice row.day (balance_of row) (opened (invoice + 1) rows)
    ∙ ap (λ later. unpaid_of row +ℤ later) (due_sum-opened (invoice + 1) rows)

-- which are due
filter_due-opening : (invoice day : ℕ) (balance : ℤ) (later : List OpenInvoice)
    → filter is_due (opening invoice day balance later)
    ≡ cond (int_lt (pos 0) balance)
    (record { invoice = invoice; day = day; balance = balance } ∷ filter is_due later)
    (filter is_due later)
filter_due-opening invoice day (pos zero) later = refl
filter_due-opening invoice day (pos (suc n)) later = refl
filter_due-opening invoice day (negsuc n) later = refl

-- the test of a row decides both lists
due_tested : (test : Bool) (invoice : ℕ) (row : Row) (open_ones : List OpenInvoice) (rows : List Row)
    → map (λ (one : OpenInvoice). one.day) open_ones ≡ map (λ (row : Row). row.day) rows
    → map (λ (one : OpenInvoice). one.day)
    (cond test (record { invoice = invoice; day = row.day; balance = balance_of row } ∷ open_ones) open_ones)
    ≡ map (λ (row : Row). row.day) (cond test (row ∷ rows) rows)
due_tested true invoice row open_ones rows same = ap (λ days. row.day ∷ days) same
due_tested false invoice row open_ones rows same = same

-- their days
pub due_days-opened : (invoice : ℕ) (rows : List Row)
    → due_days (opened invoice rows) ≡ map (λ (row : Row). row.day) (filter is_unpaid rows)
due_days-opened invoice [] = refl
due_days-opened invoice (row ∷ rows) =
    ap (map (λ (one : OpenInvoice). one.day))
    (filter_due-opening invoice row.day (balance_of row) (opened (invoice + 1) rows))
    ∙ due_tested (is_unpaid row) invoice row (filter is_due (opened (invoice + 1) rows))
    (filter is_unpaid rows)
    (due_days-opened (invoice + 1) rows)

-- their number
pub due_count-opened : (invoice : ℕ) (rows : List Row) → due_count (opened invoice rows) ≡ unpaid_count rows
due_count-opened invoice rows =
    sym (length-map (filter is_due (opened invoice rows)) (λ (one : OpenInvoice). one.day))
    ∙ ap length (due_days-opened invoice rows)
    ∙ length-map (filter is_unpaid rows) (λ (row : Row). row.day)

-- their numbers
numbers_tested : (test : Bool) (invoice day : ℕ) (balance : ℤ) (open_ones : List OpenInvoice)
    (numbers : List ℕ)
    → map (λ (one : OpenInvoice). one.invoice) open_ones ≡ numbers
    → map (λ (one : OpenInvoice). one.invoice)
    (cond test (record { invoice = invoice; day = day; balance = balance } ∷ open_ones) open_ones)
    ≡ cond test (invoice ∷ numbers) numbers
numbers_tested true invoice day balance open_ones numbers same = ap (λ later. invoice ∷ later) same
numbers_tested false invoice day balance open_ones numbers same = same

due_numbers-opened : (invoice : ℕ) (rows : List Row)
    → map (λ (one : OpenInvoice). one.invoice) (filter is_due (opened invoice rows))
    ≡ unpaid_numbers invoice rows
due_numbers-opened invoice [] = refl
due_numbers-opened invoice (row ∷ rows) =
    ap (map (λ (one : OpenInvoice). one.invoice))
    (filter_due-opening invoice row.day (balance_of row) (opened (invoice + 1) rows))
    ∙ numbers_tested (is_unpaid row) invoice row.day (balance_of row)
    (filter is_due (opened (invoice + 1) rows))
    (unpaid_numbers (invoice + 1) rows)
    (due_numbers-opened (invoice + 1) rows)

pub next_due-opened : (after : ℕ) (rows : List Row) → next_due after (opened 1 rows) ≡ next_unpaid after rows
next_due-opened after rows = ap (find (nat_lt after)) (due_numbers-opened 1 rows)

-- the least of the days
pub earliest_due-opened : (rows : List Row) → least (due_days (opened 1 rows)) ≡ earliest_unpaid rows
earliest_due-opened rows = ap least (due_days-opened 1 rows)
