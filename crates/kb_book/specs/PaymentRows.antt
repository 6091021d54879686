-- The refusals of a payment, a refund, a chargeback and a settlement, in their order.
use Rattle.std.specs.Prelude.{ℕ, ◌≡◌, ◌==◌, Bool, true, false, not, ◌&&◌, List, [], ◌∷◌, length, take, codes}
use Rattle.std.specs.Prelude.{bytes_eq, Option, Some, None, is_some, ℤ, pos, refl}
use Rattle.kb_payment.specs.declared.fault.PayFault.{PayFault}
use Rattle.kb_payment.specs.declared.fault.PayFault.TheVariants as pay
use Rattle.kb_payment.specs.declared.attempt.Attempt.{Attempt}
use Rattle.kb_payment.specs.declared.attempt.Status.{Status}
use Rattle.kb_payment.specs.Attempts.{is_open}
use Rattle.kb_payment.specs.PaymentSums.{PaymentsValue, attempt_of}
use Rattle.kb_payment.specs.PaymentEdits.{purchase_fault, give_back_fault}
use Rattle.kb_credit.specs.declared.row.Row.{Row}
use Rattle.kb_credit.specs.InvoiceRows.{InvoicesValue, numbered, balance_of}
use Rattle.kb_codec.specs.Members.{status_byte}
use Rattle.kb_codec.specs.declared.action.Pay.{Pay}
use Rattle.kb_book.specs.declared.refusal.Refusal.{Refusal}
use Rattle.kb_book.specs.declared.refusal.Refusal.TheVariants as refusal
use Rattle.kb_book.specs.Rows.{Rows}

-- a text begins with these bytes
abbrev pub begins : List ℕ → List ℕ → Bool
begins front text = bytes_eq front (take (length front) text)

begins_with_auto : begins (codes "auto-") (codes "auto-1-2024-03-01") ≡ true
begins_with_auto = refl

-- a payment key that is the platform's own
abbrev pub is_own_key : List ℕ → Bool
is_own_key key = begins (codes "auto-") key

-- the refusal of a fault; no rule of payments gives the last one
abbrev pub refusal_of : PayFault → Refusal
refusal_of pay.KeyReused = refusal.KeyReused
refusal_of pay.NoPayment = refusal.NoPayment
refusal_of pay.NothingDue = refusal.NothingDue
refusal_of pay.AttemptOpen = refusal.AttemptOpen
refusal_of pay.PaymentState = refusal.PaymentState
refusal_of pay.AmountTooLarge = refusal.AmountTooLarge
refusal_of pay.NoMemory = refusal.AmountTooLarge

-- the refusal of a fault, if there is one
abbrev pub fault_rows : Option PayFault → Rows
fault_rows None = []
fault_rows (Some fault) = (true, refusal_of fault) ∷ []

-- the refusals of a payment on the invoice of a row, if it is there
abbrev pub purchase_rows : PaymentsValue → Pay → Option Row → Rows
purchase_rows payments c None = (true, refusal.NoInvoice) ∷ []
purchase_rows payments c (Some row) =
    fault_rows (purchase_fault payments c.payment c.invoice (balance_of row) c.amount)

-- the refusals of a payment: the key, the invoice, and then what is due on it
abbrev pub pay_rows : PaymentsValue → InvoicesValue → Pay → Rows
pay_rows payments invoices c =
    (is_own_key c.payment, refusal.BadName)
    ∷ (is_some (attempt_of payments c.payment), refusal.KeyReused)
    ∷ purchase_rows payments c (numbered c.invoice invoices.rows)

-- the refusals of a refund and of a chargeback
abbrev pub give_back_rows : PaymentsValue → List ℕ → List ℕ → ℕ → Rows
give_back_rows payments key of amount =
    (is_own_key key, refusal.BadName) ∷ fault_rows (give_back_fault payments key of amount)

-- two statuses are the same
abbrev pub same_status : Status → Status → Bool
same_status one other = status_byte one == status_byte other

-- an attempt is open, and has another status
abbrev pub may_settle : Option Attempt → Status → Bool
may_settle None status = false
may_settle (Some attempt) status = is_open attempt.status && not (same_status attempt.status status)

-- the refusals of a settlement
abbrev pub settle_rows : PaymentsValue → List ℕ → Status → Rows
settle_rows payments key status =
    (not (may_settle (attempt_of payments key) status), refusal.PaymentState) ∷ []

-- what an invoice has to pay; nothing if it isn't there
abbrev pub balance_of_row : Option Row → ℤ
balance_of_row None = pos 0
balance_of_row (Some row) = balance_of row

abbrev pub balance_at : InvoicesValue → ℕ → ℤ
balance_at invoices invoice = balance_of_row (numbered invoice invoices.rows)
