-- Keys of the platform's own stay those of automatic payments.
use Rattle.std.proofs.Common.{◌≡◌, ℕ, true, false, List, Option, Some, None, All, refl, sym, ◌∙◌, true≢false}
use Rattle.kb_payment.specs.declared.attempt.Attempt.{Attempt}
use Rattle.kb_payment.specs.declared.attempt.Status.{Status}
use Rattle.kb_payment.specs.Attempts.{with_status}
use Rattle.kb_payment.specs.PaymentSums.{PaymentsValue, attempt_of, with_attempt}
use Rattle.kb_payment.specs.PaymentEdits.{purchase_of, settled}
use Rattle.kb_book.proofs.FoundEntries.{same_keys, All-put, All-find}
use Rattle.kb_book.specs.OwnKeys.{IsOwned}
use Rattle.kb_book.specs.PaymentRows.{is_own_key}
use Rattle.kb_book.specs.Edits.{auto_key}

-- the attempts under the platform's own keys are the automatic payments which these name
abbrev pub AreOwned : PaymentsValue → Type 0
AreOwned payments = All (λ (entry : List ℕ × Attempt). IsOwned entry.0 entry.1) payments

-- it stays so with an attempt that is so
pub owned-put : (payments : PaymentsValue) (key : List ℕ) (attempt : Attempt) → AreOwned payments
    → IsOwned key attempt → AreOwned (with_attempt payments key attempt)
owned-put payments key attempt owned is =
    All-put same_keys (λ (entry : List ℕ × Attempt). IsOwned entry.0 entry.1) key attempt payments owned is

-- with one under another key
pub owned-other : (payments : PaymentsValue) (key : List ℕ) (attempt : Attempt) → AreOwned payments
    → is_own_key key ≡ false → AreOwned (with_attempt payments key attempt)
owned-other payments key attempt owned other =
    owned-put payments key attempt owned (λ own. absurd (true≢false (sym own ∙ other)))

-- with an automatic payment
pub owned-auto : (payments : PaymentsValue) (invoice amount day : ℕ) → AreOwned payments
    → AreOwned (with_attempt payments (auto_key invoice day) (purchase_of invoice amount day true))
owned-auto payments invoice amount day owned =
    owned-put payments (auto_key invoice day) (purchase_of invoice amount day true) owned
    (λ own. (refl, refl))

-- and once an attempt is settled
pub owned-settled : (payments : PaymentsValue) (key : List ℕ) (status : Status) → AreOwned payments
    → AreOwned (settled payments key status)
owned-settled payments key status owned = by_attempt (attempt_of payments key) refl
  where
    by_attempt : (found : Option Attempt) → attempt_of payments key ≡ found
        → AreOwned (settled payments key status)
    by_attempt None is = rw is owned
    by_attempt (Some attempt) is =
        let here : IsOwned key attempt =
        All-find same_keys (λ (entry : List ℕ × Attempt). IsOwned entry.0 entry.1) key attempt payments owned
        is in
        rw is (owned-put payments key (with_status attempt status) owned here)
