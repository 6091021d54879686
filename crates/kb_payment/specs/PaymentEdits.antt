-- What an edit makes of payments, and why it is refused.
use Rattle.std.specs.Prelude.{ℕ, ◌^◌, Bool, false, not, ◌||◌, nat_lt, min, ℤ, pos, ◌+ℤ◌}
use Rattle.std.specs.Prelude.{int_lt, nat_abs, List, Option, None, Some, is_some, unwrap_or}
use Rattle.std.specs.Prelude.{if◌then◌else◌, []}
use Rattle.kb_payment.specs.declared.attempt.Attempt.{Attempt}
use Rattle.kb_payment.specs.declared.attempt.Kind.{Kind}
use Rattle.kb_payment.specs.declared.attempt.Kind.TheVariants.{Purchase, Refund, Chargeback}
use Rattle.kb_payment.specs.declared.attempt.Status.{Status}
use Rattle.kb_payment.specs.declared.attempt.Status.TheVariants.{Unknown, Success}
use Rattle.kb_payment.specs.declared.fault.PayFault.{PayFault}
use Rattle.kb_payment.specs.declared.fault.PayFault.TheVariants.{KeyReused, NoPayment, NothingDue}
use Rattle.kb_payment.specs.declared.fault.PayFault.TheVariants.{AttemptOpen}
use Rattle.kb_payment.specs.declared.fault.PayFault.TheVariants.{PaymentState, AmountTooLarge}
use Rattle.kb_payment.specs.Attempts.{is_open, is_paid_purchase, with_status}
use Rattle.kb_payment.specs.PaymentSums.{PaymentsValue, attempt_of, with_attempt, taken_of}
use Rattle.kb_payment.specs.PaymentSums.{open_purchases}

-- the most that one purchase pays, in minor units
abbrev pub max_purchase : ℕ
max_purchase = 10 ^ 12

-- what a purchase pays: the amount that is asked for, or else as much of the balance as one purchase may pay
abbrev pub amount_of : ℤ → Option ℕ → ℕ
amount_of balance amount = unwrap_or amount (min (nat_abs balance) max_purchase)

-- an amount that is asked for is more than the balance, or than one purchase may pay
abbrev pub is_too_large : ℤ → Option ℕ → Bool
is_too_large balance None = false
is_too_large balance (Some amount) = int_lt balance (pos amount) || nat_lt max_purchase amount

-- no attempt yet
abbrev pub no_payments : PaymentsValue
no_payments = []

-- a purchase begins as unknown
abbrev pub purchase_of : ℕ → ℕ → ℕ → Bool → Attempt
purchase_of invoice amount day auto = record {
  kind = Purchase;
  invoice = invoice;
  of = None;
  amount = amount;
  day = day;
  status = Unknown;
  auto = auto;
}

abbrev pub purchased : PaymentsValue → List ℕ → ℕ → ℤ → Option ℕ → ℕ → Bool → PaymentsValue
purchased payments key invoice balance amount day auto =
    with_attempt payments key (purchase_of invoice (amount_of balance amount) day auto)

-- why a purchase is refused, if it is
abbrev pub purchase_fault : PaymentsValue → List ℕ → ℕ → ℤ → Option ℕ → Option PayFault
purchase_fault payments key invoice balance amount =
    if is_some (attempt_of payments key) then Some KeyReused
    else if not (int_lt (pos 0) balance) then Some NothingDue
    else if int_lt (pos 0) (open_purchases payments invoice) then Some AttemptOpen
    else if is_too_large balance amount then Some AmountTooLarge
    else None

-- some of the purchase of a key is given back: by a refund, or by a chargeback
abbrev pub give_back_of : Kind → Status → List ℕ → Attempt → ℕ → ℕ → Attempt
give_back_of kind status of purchase amount day = record {
  kind = kind;
  invoice = purchase.invoice;
  of = Some of;
  amount = amount;
  day = day;
  status = status;
  auto = false;
}

abbrev pub given_back : Kind → Status → PaymentsValue → List ℕ → List ℕ → ℕ → ℕ → PaymentsValue
given_back kind status payments key of amount day = of_purchase (attempt_of payments of)
  where
    of_purchase : Option Attempt → PaymentsValue
    of_purchase None = payments
    of_purchase (Some purchase) = with_attempt payments key (give_back_of kind status of purchase amount day)

-- a refund begins as unknown, and a chargeback has happened
abbrev pub refunded : PaymentsValue → List ℕ → List ℕ → ℕ → ℕ → PaymentsValue
refunded payments key of amount day = given_back Refund Unknown payments key of amount day

abbrev pub charged_back : PaymentsValue → List ℕ → List ℕ → ℕ → ℕ → PaymentsValue
charged_back payments key of amount day = given_back Chargeback Success payments key of amount day

-- why a refund or a chargeback is refused, if it is: no more is given back of a purchase than is left of it
abbrev pub give_back_fault : PaymentsValue → List ℕ → List ℕ → ℕ → Option PayFault
give_back_fault payments key of amount =
    if is_some (attempt_of payments key) then Some KeyReused
    else of_purchase (attempt_of payments of)
  where
    of_purchase : Option Attempt → Option PayFault
    of_purchase None = Some NoPayment
    of_purchase (Some purchase) =
        if not (is_paid_purchase purchase) then Some PaymentState
        else if int_lt (pos purchase.amount) (taken_of payments of +ℤ pos amount) then Some AmountTooLarge
        else None

-- an attempt gets a status
abbrev pub settled : PaymentsValue → List ℕ → Status → PaymentsValue
settled payments key status = of_attempt (attempt_of payments key)
  where
    of_attempt : Option Attempt → PaymentsValue
    of_attempt None = payments
    of_attempt (Some attempt) = with_attempt payments key (with_status attempt status)

-- why it is refused, if it is: a final attempt never changes
abbrev pub settle_fault : PaymentsValue → List ℕ → Option PayFault
settle_fault payments key = of_attempt (attempt_of payments key)
  where
    of_attempt : Option Attempt → Option PayFault
    of_attempt None = Some NoPayment
    of_attempt (Some attempt) = if is_open attempt.status then None else Some PaymentState
