-- Open invoices: those whose balance isn't 0.
use Rattle.std.specs.Prelude.{◌≡◌, ℕ, zero, ◌+◌, List, [], ◌∷◌, ◌++◌, ℤ, pos, neg_ℤ, nat_lt, refl}
use Rattle.std.specs.Prelude.{Bool, int_lt, map, length, nat_le, if◌then◌else◌, Option, Some, None}
use Rattle.std.specs.List.{filter, find}
use Rattle.std.specs.Int.{int_max}
use Rattle.kb_sharing.specs.Sums.{sum_of}
use Rattle.kb_days.specs.Dates.{march}
use Rattle.kb_credit.specs.declared.row.Row.{Row}
use Rattle.kb_credit.specs.declared.open_invoice.OpenInvoice.{OpenInvoice}
use Rattle.kb_credit.specs.InvoiceRows.{balance_of, least, march_row, repair_row}

-- an open invoice in front of others, if its balance isn't 0
abbrev pub opening : ℕ → ℕ → ℤ → List OpenInvoice → List OpenInvoice
opening invoice day (pos zero) later = later
opening invoice day balance later = record { invoice = invoice; day = day; balance = balance } ∷ later

-- the open ones of rows that are numbered from one on
abbrev pub opened : ℕ → List Row → List OpenInvoice
opened invoice [] = []
opened invoice (row ∷ rows) = opening invoice row.day (balance_of row) (opened (invoice + 1) rows)

-- of these two both are open
both_open : opened 1 (march_row ∷ repair_row ∷ [])
    ≡ record { invoice = 1; day = march 1; balance = pos 900 }
    ∷ record { invoice = 2; day = march 25; balance = neg_ℤ (pos 387) } ∷ []
both_open = refl

-- the balance of an invoice is now this
abbrev pub reopened : OpenInvoice → List OpenInvoice → List OpenInvoice
reopened changed invoices =
    filter (λ (other : OpenInvoice). nat_lt other.invoice changed.invoice) invoices
    ++ opening changed.invoice changed.day changed.balance
    (filter (λ (other : OpenInvoice). nat_lt changed.invoice other.invoice) invoices)

-- the first is paid
first_paid : reopened (record { invoice = 1; day = march 1; balance = pos 0 })
    (opened 1 (march_row ∷ repair_row ∷ []))
    ≡ record { invoice = 2; day = march 25; balance = neg_ℤ (pos 387) } ∷ []
first_paid = refl

-- an open invoice is due if its balance is above 0
abbrev pub is_due : OpenInvoice → Bool
is_due one = int_lt (pos 0) one.balance

-- what all that are due add up to
abbrev pub due_sum : List OpenInvoice → ℤ
due_sum invoices = sum_of (λ (one : OpenInvoice). int_max (pos 0) one.balance) invoices

-- how many are due, the earliest of their days, and the number of the first after a number
abbrev pub due_count : List OpenInvoice → ℕ
due_count invoices = length (filter is_due invoices)

abbrev pub due_days : List OpenInvoice → List ℕ
due_days invoices = map (λ (one : OpenInvoice). one.day) (filter is_due invoices)

abbrev pub next_due : ℕ → List OpenInvoice → Option ℕ
next_due after invoices =
    find (nat_lt after) (map (λ (one : OpenInvoice). one.invoice) (filter is_due invoices))

-- of the two open ones the first is due
march_due : due_sum (opened 1 (march_row ∷ repair_row ∷ [])) ≡ pos 900
march_due = refl

march_due_day : least (due_days (opened 1 (march_row ∷ repair_row ∷ []))) ≡ Some (march 1)
march_due_day = refl

march_next_due : next_due 0 (opened 1 (march_row ∷ repair_row ∷ [])) ≡ Some 1
march_next_due = refl

-- of what was found and a day, the earlier
abbrev pub earlier_of : Option ℕ → ℕ → ℕ
earlier_of None day = day
earlier_of (Some found) day = if nat_le found day then found else day

the_first_of_march : earlier_of (Some (march 25)) (march 1) ≡ march 1
the_first_of_march = refl
