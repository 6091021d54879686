-- Invoices as rows of sums, and what an account has charged, paid, in credit and unpaid by them.
use Rattle.std.specs.Prelude.{ℕ, zero, suc, ◌+◌, List, [], ◌∷◌, length, ◌≡◌, refl, Bool, ℤ, pos, neg_ℤ}
use Rattle.std.specs.Prelude.{◌+ℤ◌, ◌-ℤ◌, int_lt, nat_lt, min, if◌then◌else◌, Option, Some, None, map}
use Rattle.std.specs.Prelude.{slice_get}
use Rattle.std.specs.List.{filter, find}
use Rattle.std.specs.Int.{int_max}
use Rattle.kb_days.specs.Dates.{march}
use Rattle.kb_credit.specs.declared.row.Row.{Row}
use Rattle.kb_credit.specs.declared.line.Line.{Line}
use Rattle.kb_credit.specs.declared.invoice.Invoice.{Invoice}
use Rattle.kb_sharing.specs.Sums.{sum_of}

-- what contracts see of invoices: one row for each, in order of their numbers, which begin at 1; and the
-- items of all, in order of theirs, each with the number of its invoice
pub record InvoicesValue : Type 0 where
  pub rows : List Row
  pub items : List (ℕ × Line)

-- what is left to pay of an invoice; if it is negative, what was paid or given back too much
abbrev pub balance_of : Row → ℤ
balance_of row = row.total +ℤ row.adjusted -ℤ row.paid

-- an invoice is unpaid if its balance is above 0, and its balance is then the unpaid sum
abbrev pub is_unpaid : Row → Bool
is_unpaid row = int_lt (pos 0) (balance_of row)

abbrev pub unpaid_of : Row → ℤ
unpaid_of row = int_max (pos 0) (balance_of row)

-- the sums over all invoices: of totals, of payments, of credit adjustments, and of what is unpaid
abbrev pub charged : List Row → ℤ
charged rows = sum_of (λ (row : Row). row.total) rows

abbrev pub paid : List Row → ℤ
paid rows = sum_of (λ (row : Row). row.paid) rows

abbrev pub credit : List Row → ℤ
credit rows = sum_of (λ (row : Row). row.adjusted) rows

abbrev pub unpaid : List Row → ℤ
unpaid rows = sum_of unpaid_of rows

-- how many invoices are unpaid
abbrev pub unpaid_count : List Row → ℕ
unpaid_count rows = length (filter is_unpaid rows)

-- of a day and another, if there is one, the less
abbrev pub at_most : ℕ → Option ℕ → ℕ
at_most day None = day
at_most day (Some other) = min day other

-- the least of some days
abbrev pub least : List ℕ → Option ℕ
least [] = None
least (day ∷ later) = Some (at_most day (least later))

-- the days of the unpaid invoices, in order of their numbers, and the earliest of them
abbrev pub unpaid_days : List Row → List ℕ
unpaid_days rows = map (λ (row : Row). row.day) (filter is_unpaid rows)

abbrev pub earliest_unpaid : List Row → Option ℕ
earliest_unpaid rows = least (unpaid_days rows)

-- the numbers of the unpaid ones, of rows that are numbered from one on
abbrev pub unpaid_numbers : ℕ → List Row → List ℕ
unpaid_numbers invoice [] = []
unpaid_numbers invoice (row ∷ rows) =
    if is_unpaid row then invoice ∷ unpaid_numbers (invoice + 1) rows else unpaid_numbers (invoice + 1) rows

-- the lowest number of an unpaid invoice after a number
abbrev pub next_unpaid : ℕ → List Row → Option ℕ
next_unpaid after rows = find (nat_lt after) (unpaid_numbers 1 rows)

-- the member of a number, which begins at 1
abbrev pub numbered : {A : Type 0} → ℕ → List A → Option A
numbered zero members = None
numbered (suc place) members = slice_get members place

-- what is told of an invoice: its day, and the total of its items except the credit adjustments
abbrev pub invoice_of : Row → Invoice
invoice_of row = record { day = row.day; total = row.total }

-- Basic for March, cancelled on the 20th after 100 of it were paid
abbrev pub march_row : Row
march_row = record { day = march 1; total = pos 1000; adjusted = pos 0; paid = pos 100 }

abbrev pub repair_row : Row
repair_row = record { day = march 25; total = neg_ℤ (pos 387); adjusted = pos 0; paid = pos 0 }

march_balance : balance_of march_row ≡ pos 900
march_balance = refl

march_unpaid : unpaid (march_row ∷ repair_row ∷ []) ≡ pos 900
march_unpaid = refl

march_earliest : earliest_unpaid (march_row ∷ repair_row ∷ []) ≡ Some (march 1)
march_earliest = refl

march_next : next_unpaid 0 (march_row ∷ repair_row ∷ []) ≡ Some 1
march_next = refl

none_after_march : next_unpaid 1 (march_row ∷ repair_row ∷ []) ≡ None
none_after_march = refl

second_total : numbered 2 (march_row ∷ repair_row ∷ []) ≡ Some repair_row
second_total = refl

second_invoice : invoice_of repair_row ≡ record { day = march 25; total = neg_ℤ (pos 387) }
second_invoice = refl

two_charged : charged (march_row ∷ repair_row ∷ []) ≡ pos 613
two_charged = refl

one_paid : paid (march_row ∷ repair_row ∷ []) ≡ pos 100
one_paid = refl

no_credit_yet : credit (march_row ∷ repair_row ∷ []) ≡ pos 0
no_credit_yet = refl

one_unpaid : unpaid_count (march_row ∷ repair_row ∷ []) ≡ 1
one_unpaid = refl

day_of_one : unpaid_days (march_row ∷ repair_row ∷ []) ≡ march 1 ∷ []
day_of_one = refl
