-- What always holds of payments.
use Rattle.std.specs.Prelude.{ℕ, ◌≤◌, ◌≡◌, true, pos, ◌≤ℤ◌, List, Option, None, IfSome, IsSomeAnd, T, All}
use Rattle.std.specs.FinMap.{is_sorted}
use Rattle.kb_payment.specs.declared.attempt.Attempt.{Attempt}
use Rattle.kb_payment.specs.declared.attempt.Kind.{Kind}
use Rattle.kb_payment.specs.declared.attempt.Kind.TheVariants.{Purchase, Refund, Chargeback}
use Rattle.kb_payment.specs.declared.attempt.Status.TheVariants.{Success}
use Rattle.kb_payment.specs.Attempts.{is_paid_purchase}
use Rattle.kb_sharing.specs.Keys.{by_words}
use Rattle.kb_payment.specs.PaymentSums.{PaymentsValue, attempt_of, taken_of, open_purchases}
use Rattle.kb_payment.specs.PaymentEdits.{max_purchase}

-- the key is that of a successful purchase on the invoice of a number
abbrev pub NamesPaid : PaymentsValue → ℕ → Option (List ℕ) → Type 0
NamesPaid payments invoice of = IsSomeAnd of (λ key. IsSomeAnd (attempt_of payments key) (λ purchase.
    (is_paid_purchase purchase ≡ true) × (purchase.invoice ≡ invoice)))

-- An attempt of a kind is sound among payments. A purchase names no other one and pays no more than one may;
-- a refund or a chargeback names a successful purchase on its invoice; and a chargeback is a success.
abbrev pub IsSoundAs : Kind → PaymentsValue → Attempt → Type 0
IsSoundAs Purchase payments attempt = (attempt.of ≡ None) × (attempt.amount ≤ max_purchase)
IsSoundAs Refund payments attempt = NamesPaid payments attempt.invoice attempt.of
IsSoundAs Chargeback payments attempt =
    NamesPaid payments attempt.invoice attempt.of × (attempt.status ≡ Success)

abbrev pub IsSound : PaymentsValue → Attempt → Type 0
IsSound payments attempt = IsSoundAs attempt.kind payments attempt

-- what always holds of payments: each attempt is sound, no more is given back of a purchase than it is, and
-- an invoice has at most one open purchase
pub record ArePayments (payments : PaymentsValue) : Type 0 where
  pub sorted : T (is_sorted by_words payments)
  pub sound : All (λ (entry : List ℕ × Attempt). IsSound payments entry.1) payments
  pub covered : (key : List ℕ)
      → IfSome (attempt_of payments key) (λ purchase. taken_of payments key ≤ℤ pos purchase.amount)
  pub single : (invoice : ℕ) → open_purchases payments invoice ≤ℤ pos 1
