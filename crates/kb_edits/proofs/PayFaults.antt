-- A purchase, a refund or a chargeback is never refused for want of memory.
use Rattle.std.proofs.Common.{◌≡◌, ℕ, Bool, true, false, not, List, Option, None, Some, IfSome, is_some}
use Rattle.std.proofs.Common.{ℤ, pos, ◌+ℤ◌, int_lt, if◌then◌else◌}
use Rattle.kb_payment.specs.declared.attempt.Attempt.{Attempt}
use Rattle.kb_payment.specs.declared.fault.PayFault.{PayFault}
use Rattle.kb_payment.specs.declared.fault.PayFault.TheVariants as pay
use Rattle.kb_payment.specs.Attempts.{is_paid_purchase}
use Rattle.kb_payment.specs.PaymentSums.{PaymentsValue, attempt_of, taken_of, open_purchases}
use Rattle.kb_payment.specs.PaymentEdits.{is_too_large, purchase_fault, give_back_fault}

-- a fault, if there is one, isn't want of memory
abbrev IsTold : Option PayFault → Type 0
IsTold fault = IfSome fault (λ fault. fault ≡ pay.NoMemory → ⊥)

-- the fault of a test, and else a later one
if-told : (test : Bool) (fault : PayFault) (later : Option PayFault) → (fault ≡ pay.NoMemory → ⊥)
    → IsTold later → IsTold (if test then Some fault else later)
if-told true fault later other rest = other
if-told false fault later other rest = rest

-- a purchase that is refused has another fault
pub purchase_fault-told : (payments : PaymentsValue) (key : List ℕ) (invoice : ℕ) (balance : ℤ)
    (amount : Option ℕ)
    → IfSome (purchase_fault payments key invoice balance amount) (λ fault. fault ≡ pay.NoMemory → ⊥)
purchase_fault-told payments key invoice balance amount =
    if-told (is_some (attempt_of payments key)) pay.KeyReused _ (λ e. absurd cc)
    (if-told (not (int_lt (pos 0) balance)) pay.NothingDue _ (λ e. absurd cc)
    (if-told (int_lt (pos 0) (open_purchases payments invoice)) pay.AttemptOpen _ (λ e. absurd cc)
    (if-told (is_too_large balance amount) pay.AmountTooLarge None (λ e. absurd cc) tt)))

-- so has a refund or a chargeback
pub give_back_fault-told : (payments : PaymentsValue) (key of : List ℕ) (amount : ℕ)
    → IfSome (give_back_fault payments key of amount) (λ fault. fault ≡ pay.NoMemory → ⊥)
give_back_fault-told payments key of amount =
    if-told (is_some (attempt_of payments key)) pay.KeyReused _ (λ e. absurd cc)
    (by_purchase (attempt_of payments of))
  where
    fault_of : Option Attempt → Option PayFault
    fault_of None = Some pay.NoPayment
    fault_of (Some purchase) =
        if not (is_paid_purchase purchase) then Some pay.PaymentState
        else if int_lt (pos purchase.amount) (taken_of payments of +ℤ pos amount) then Some pay.AmountTooLarge
        else None

    by_purchase : (purchase : Option Attempt) → IsTold (fault_of purchase)
    by_purchase None = λ e. absurd cc
    by_purchase (Some purchase) =
        if-told (not (is_paid_purchase purchase)) pay.PaymentState _ (λ e. absurd cc)
        (if-told (int_lt (pos purchase.amount) (taken_of payments of +ℤ pos amount)) pay.AmountTooLarge None
        (λ e. absurd cc) tt)

pub ruleset pay_faults = (purchase_fault-told, give_back_fault-told)
