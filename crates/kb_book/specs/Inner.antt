-- What a book asks for by itself: an overdue transition, and an automatic payment.
use Rattle.std.specs.Prelude.{ℕ, Bool, true, false, not, ◌&&◌, ◌==◌, nat_lt, List, Option, Some, None}
use Rattle.std.specs.Prelude.{option_map, option_and_then, slice_get, bytes_eq, find, pos, int_lt, ◌≡◌, refl}
use Rattle.kb_days.specs.Dates.{march}
use Rattle.kb_overdue.specs.declared.state.OverdueState.{OverdueState}
use Rattle.kb_overdue.specs.declared.arrears.Arrears.{Arrears}
use Rattle.kb_overdue.specs.OverdueDays.{state_on}
use Rattle.kb_credit.specs.InvoiceRows.{InvoicesValue, unpaid, unpaid_count, earliest_unpaid, unpaid_numbers}
use Rattle.kb_payment.specs.PaymentSums.{PaymentsValue, open_purchases, has_automatic_since}

-- what an account owes
abbrev pub arrears_of : InvoicesValue → Arrears
arrears_of invoices = record {
  earliest = earliest_unpaid invoices.rows;
  count = unpaid_count invoices.rows;
  total = unpaid invoices.rows;
}

-- the overdue state of a day by what is unpaid; none is CLEAR
abbrev pub state_of : List OverdueState → InvoicesValue → ℕ → Option OverdueState
state_of states invoices day =
    option_and_then (slice_get states) (state_on states (arrears_of invoices) day)

-- the name of that state
abbrev pub state_name : Option OverdueState → Option (List ℕ)
state_name state = option_map (λ (state : OverdueState). state.name) state

-- two names, or none, are the same
abbrev pub same_name : Option (List ℕ) → Option (List ℕ) → Bool
same_name None None = true
same_name None (Some other) = false
same_name (Some name) None = false
same_name (Some name) (Some other) = bytes_eq name other

-- a day is after that of the last transition, if there was one
abbrev pub is_after : Option ℕ → ℕ → Bool
is_after None day = true
is_after (Some last) day = nat_lt last day

not_twice_on_a_day : is_after (Some (march 8)) (march 8) ≡ false
not_twice_on_a_day = refl

-- a transition is due: the state of today isn't the present one, and the last transition was before today
abbrev pub is_transition_due : List OverdueState → InvoicesValue → Option ℕ → Option (List ℕ) → ℕ → Bool
is_transition_due states invoices transition overdue today =
    is_after transition today && not (same_name (state_name (state_of states invoices today)) overdue)

-- an automatic payment of an invoice may be made today: no purchase of it is open, and it has no automatic
-- attempt of today or later
abbrev pub may_be_paid : PaymentsValue → ℕ → ℕ → Bool
may_be_paid payments today invoice =
    not (int_lt (pos 0) (open_purchases payments invoice))
    && not (has_automatic_since payments invoice today)

-- the lowest unpaid invoice that may be paid
abbrev pub invoice_to_pay : PaymentsValue → InvoicesValue → ℕ → Option ℕ
invoice_to_pay payments invoices today = find (may_be_paid payments today) (unpaid_numbers 1 invoices.rows)

-- the invoice whose automatic payment is due: that one, where invoices are paid by themselves
abbrev pub invoice_due : Bool → PaymentsValue → InvoicesValue → ℕ → Option ℕ
invoice_due true payments invoices today = invoice_to_pay payments invoices today
invoice_due false payments invoices today = None

-- it is this one
abbrev pub is_this : Option ℕ → ℕ → Bool
is_this None invoice = false
is_this (Some lowest) invoice = lowest == invoice
