-- Sound attempts stay sound while successful purchases stay.
use Rattle.std.proofs.Common.{◌≡◌, ℕ, sym, subst, refl, true, List, Option, None, Some, IsSomeAnd}
use Rattle.std.specs.Prelude.{All}
use Rattle.std.proofs.lemmas.List.Elements.{All-weaker}
use Rattle.kb_payment.specs.declared.attempt.Attempt.{Attempt}
use Rattle.kb_payment.specs.declared.attempt.Kind.{Kind}
use Rattle.kb_payment.specs.declared.attempt.Kind.TheVariants.{Purchase, Refund, Chargeback}
use Rattle.kb_payment.specs.Attempts.{is_paid_purchase}
use Rattle.kb_payment.specs.PaymentSums.{PaymentsValue, attempt_of, with_attempt}
use Rattle.kb_payment.specs.SoundPayments.{NamesPaid, IsSoundAs, IsSound}
use Rattle.kb_payment.proofs.FoundAttempts.{Stay}
use Rattle.kb_payment.proofs.PutEntries.{same_keys, All-put}

-- a key names a successful purchase still
pub NamesPaid-stays : (old new : PaymentsValue) (invoice : ℕ) (of : Option (List ℕ))
    → Stay is_paid_purchase old new
    → NamesPaid old invoice of → NamesPaid new invoice of
NamesPaid-stays old new invoice None stay names = names
NamesPaid-stays old new invoice (Some key) stay names = found (attempt_of old key) refl names
  where
    IsPaid : Option Attempt → Type 0
    IsPaid o = IsSomeAnd o (λ purchase. (is_paid_purchase purchase ≡ true) × (purchase.invoice ≡ invoice))

    found : (o : Option Attempt) → attempt_of old key ≡ o → IsPaid o → IsPaid (attempt_of new key)
    found None is paid = absurd paid
    found (Some purchase) is paid = subst IsPaid (sym (stay key purchase is paid.0)) paid

-- an attempt is sound still
IsSoundAs-stays : (kind : Kind) (old new : PaymentsValue) (attempt : Attempt) → Stay is_paid_purchase old new
    → IsSoundAs kind old attempt → IsSoundAs kind new attempt
IsSoundAs-stays Purchase old new attempt stay sound = sound
IsSoundAs-stays Refund old new attempt stay sound =
    NamesPaid-stays old new attempt.invoice attempt.of stay sound
IsSoundAs-stays Chargeback old new attempt stay sound =
    (NamesPaid-stays old new attempt.invoice attempt.of stay sound.0, sound.1)

pub IsSound-stays : (old new : PaymentsValue) (attempt : Attempt) → Stay is_paid_purchase old new
    → IsSound old attempt
    → IsSound new attempt
IsSound-stays old new attempt = IsSoundAs-stays attempt.kind old new attempt

-- all are, with one more that is
pub All-sound : (old : PaymentsValue) (key : List ℕ) (attempt : Attempt)
    → Stay is_paid_purchase old (with_attempt old key attempt)
    → All (λ (entry : List ℕ × Attempt). IsSound old entry.1) old → IsSound old attempt
    → All (λ (entry : List ℕ × Attempt). IsSound (with_attempt old key attempt) entry.1)
    (with_attempt old key attempt)
All-sound old key attempt stay sound is =
    let new = with_attempt old key attempt in
    All-put same_keys
    (λ (entry : List ℕ × Attempt). IsSound new entry.1) key attempt old
    (All-weaker (λ (entry : List ℕ × Attempt). IsSound old entry.1)
    (λ (entry : List ℕ × Attempt). IsSound new entry.1)
    (λ entry. IsSound-stays old new entry.1 stay) old sound)
    (IsSound-stays old new attempt stay is)
