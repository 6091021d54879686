-- No attempt is on an invoice that isn't there yet.
use Rattle.std.proofs.Common.{◌≡◌, ℕ, ◌≤◌, List, Option, Some, None, All, refl, arith}
use Rattle.std.proofs.lemmas.List.Elements.{All-weaker}
use Rattle.kb_payment.specs.declared.attempt.Attempt.{Attempt}
use Rattle.kb_payment.specs.declared.attempt.Status.{Status}
use Rattle.kb_payment.specs.Attempts.{with_status}
use Rattle.kb_payment.specs.PaymentSums.{PaymentsValue, attempt_of, with_attempt}
use Rattle.kb_payment.specs.PaymentEdits.{settled}
use Rattle.kb_book.proofs.FoundEntries.{same_keys, All-put, All-find}

-- no attempt is on an invoice whose number is past one
abbrev pub AreInvoiced : ℕ → PaymentsValue → Type 0
AreInvoiced count payments = All (λ (entry : List ℕ × Attempt). entry.1.invoice ≤ count) payments

-- it stays so with an attempt on an invoice that is there
pub invoiced-put : (count : ℕ) (payments : PaymentsValue) (key : List ℕ) (attempt : Attempt)
    → AreInvoiced count payments → attempt.invoice ≤ count
    → AreInvoiced count (with_attempt payments key attempt)
invoiced-put count payments key attempt invoiced low =
    All-put same_keys (λ (entry : List ℕ × Attempt). entry.1.invoice ≤ count) key attempt payments invoiced
    low

-- an attempt that is found is on one
pub invoiced-found : (count : ℕ) (payments : PaymentsValue) (key : List ℕ) (attempt : Attempt)
    → AreInvoiced count payments → attempt_of payments key ≡ Some attempt → attempt.invoice ≤ count
invoiced-found count payments key attempt invoiced is =
    All-find same_keys (λ (entry : List ℕ × Attempt). entry.1.invoice ≤ count) key attempt payments invoiced
    is

-- once an attempt is settled
pub invoiced-settled : (count : ℕ) (payments : PaymentsValue) (key : List ℕ) (status : Status)
    → AreInvoiced count payments → AreInvoiced count (settled payments key status)
invoiced-settled count payments key status invoiced = by_attempt (attempt_of payments key) refl
  where
    by_attempt : (found : Option Attempt) → attempt_of payments key ≡ found
        → AreInvoiced count (settled payments key status)
    by_attempt None is = rw is invoiced
    by_attempt (Some attempt) is =
        rw is (invoiced-put count payments key (with_status attempt status) invoiced
        (invoiced-found count payments key attempt invoiced is))

-- and where more invoices are there
pub invoiced-more : (count more : ℕ) (payments : PaymentsValue) → count ≤ more → AreInvoiced count payments
    → AreInvoiced more payments
invoiced-more count more payments low invoiced =
    All-weaker (λ (entry : List ℕ × Attempt). entry.1.invoice ≤ count)
    (λ (entry : List ℕ × Attempt). entry.1.invoice ≤ more) (λ entry here. omega (arith, here)) payments
    invoiced
