-- What a refund or a chargeback may count on.
use Rattle.std.specs.Prelude.{ℕ, ◌≡◌, true, false, ◌||◌, pos, ◌+ℤ◌, ◌≤ℤ◌, List, None, Some}
use Rattle.kb_payment.specs.declared.attempt.Attempt.{Attempt}
use Rattle.kb_payment.specs.declared.attempt.Kind.{Kind}
use Rattle.kb_payment.specs.declared.attempt.Status.{Status}
use Rattle.kb_payment.specs.Attempts.{is_open, is_success, is_purchase, is_paid_purchase}
use Rattle.kb_payment.specs.PaymentSums.{PaymentsValue, attempt_of, taken_of}
use Rattle.kb_payment.specs.PaymentEdits.{give_back_of}
use Rattle.kb_payment.specs.SoundPayments.{IsSound}

-- the key is new, and the purchase is a successful one that covers the amount
pub record IsCovered (payments : PaymentsValue) (key of : List ℕ) (purchase : Attempt) (amount : ℕ) : Type 0
  where
    pub fresh : attempt_of payments key ≡ None
    pub there : attempt_of payments of ≡ Some purchase
    pub paid : is_paid_purchase purchase ≡ true
    pub within : (taken_of payments of +ℤ pos amount) ≤ℤ pos purchase.amount

-- it counts while it may yet succeed, and is no purchase
pub record GivesBack (kind : Kind) (status : Status) : Type 0 where
  pub counts : (is_success status || is_open status) ≡ true
  pub takes : is_purchase kind ≡ false

-- an attempt gives back some of the purchase of a key, which covers it
pub record IsGiveBack (payments : PaymentsValue) (key of : List ℕ) (attempt : Attempt) : Type 0 where
  pub purchase : Attempt
  pub covered : IsCovered payments key of purchase attempt.amount
  pub is : attempt ≡ give_back_of attempt.kind attempt.status of purchase attempt.amount attempt.day
  pub gives : GivesBack attempt.kind attempt.status
  pub sound : IsSound payments attempt
