-- What is taken of purchases, and which invoices have an open purchase, after an attempt is put in.
use Rattle.std.proofs.Common.{◌≡◌, ℕ, sym, ap, subst, ◌∙◌, refl, Bool, true, false, ◌&&◌, ◌||◌, List, [], ◌∷◌}
use Rattle.std.proofs.Common.{◌==◌}
use Rattle.std.proofs.Common.{Option, None, Some, IsSomeAnd, pos, ◌≤ℤ◌, arith, bytes_eq, if◌then◌else◌}
use Rattle.std.specs.Prelude.{All}
use Rattle.std.proofs.lemmas.Int.{ints}
use Rattle.std.proofs.lemmas.List.Elements.{All-head, All-tail}
use Rattle.std.proofs.lemmas.Slice.Eq.{bytes_eq-Decides}
use Rattle.kb_payment.specs.declared.attempt.Attempt.{Attempt}
use Rattle.kb_payment.specs.declared.attempt.Kind.{Kind}
use Rattle.kb_payment.specs.declared.attempt.Kind.TheVariants.{Purchase, Refund, Chargeback}
use Rattle.kb_payment.specs.Attempts.{is_success, is_open, is_purchase, is_paid_purchase, names, taken_by}
use Rattle.kb_payment.specs.Attempts.{open_by}
use Rattle.kb_payment.specs.PaymentSums.{PaymentsValue, attempt_of, taken_of, open_purchases}
use Rattle.kb_payment.specs.SoundPayments.{NamesPaid, IsSoundAs, IsSound}

-- a key that has no attempt is named by none
names-fresh : (payments : PaymentsValue) (invoice : ℕ) (key : List ℕ) (of : Option (List ℕ))
    → attempt_of payments key ≡ None → NamesPaid payments invoice of → names key of ≡ false
names-fresh payments invoice key None fresh named = refl
names-fresh payments invoice key (Some of) fresh named = by_test (bytes_eq key of) refl
  where
    IsPaid : Option Attempt → Type 0
    IsPaid o = IsSomeAnd o (λ purchase. (is_paid_purchase purchase ≡ true) × (purchase.invoice ≡ invoice))

    by_test : (same : Bool) → bytes_eq key of ≡ same → bytes_eq key of ≡ false
    by_test true is =
        let one = (bytes_eq-Decides key of).0 is in
        absurd (subst IsPaid (sym (ap (attempt_of payments) one) ∙ fresh) named)
    by_test false is = is

names-unsound : (kind : Kind) (payments : PaymentsValue) (key : List ℕ) (attempt : Attempt)
    → attempt_of payments key ≡ None → IsSoundAs kind payments attempt → names key attempt.of ≡ false
names-unsound Purchase payments key attempt fresh sound = ap (names key) sound.0
names-unsound Refund payments key attempt fresh sound =
    names-fresh payments attempt.invoice key attempt.of fresh sound
names-unsound Chargeback payments key attempt fresh sound =
    names-fresh payments attempt.invoice key attempt.of fresh sound.0

-- so nothing is taken of it
pub taken_by-fresh : (payments : PaymentsValue) (key : List ℕ) (attempt : Attempt)
    → attempt_of payments key ≡ None
    → IsSound payments attempt → taken_by key attempt ≡ pos 0
taken_by-fresh payments key attempt fresh sound =
    ap (λ b. if b && (is_success attempt.status || is_open attempt.status) then pos attempt.amount else pos 0)
    (names-unsound attempt.kind payments key attempt fresh sound)

taken-none : (payments : PaymentsValue) (key : List ℕ) → attempt_of payments key ≡ None
    → (entries : PaymentsValue) → All (λ (entry : List ℕ × Attempt). IsSound payments entry.1) entries
    → taken_of entries key ≡ pos 0
taken-none payments key fresh [] sound = refl
taken-none payments key fresh (entry ∷ entries) sound =
    let Sound = λ (entry : List ℕ × Attempt). IsSound payments entry.1 in
    let here = taken_by-fresh payments key entry.1 fresh (All-head Sound entry entries sound) in
    let later = taken-none payments key fresh entries (All-tail Sound entry entries sound) in
    omega (arith, ints)

pub taken_of-fresh : (payments : PaymentsValue) (key : List ℕ) → attempt_of payments key ≡ None
    → All (λ (entry : List ℕ × Attempt). IsSound payments entry.1) payments → taken_of payments key ≡ pos 0
taken_of-fresh payments key fresh sound = taken-none payments key fresh payments sound

-- an attempt takes nothing, or its amount
low_if : (b : Bool) (amount : ℕ) → pos 0 ≤ℤ (if b then pos amount else pos 0)
low_if true amount = omega (arith, ints)
low_if false amount = omega (arith, ints)

pub taken_by-low : (key : List ℕ) (attempt : Attempt) → pos 0 ≤ℤ taken_by key attempt
taken_by-low key attempt =
    low_if (names key attempt.of && (is_success attempt.status || is_open attempt.status)) attempt.amount

-- there is never less than no open purchase
pub open_by-low : (invoice : ℕ) (attempt : Attempt) → pos 0 ≤ℤ open_by invoice attempt
open_by-low invoice attempt =
    low_if ((attempt.invoice == invoice) && (is_purchase attempt.kind && is_open attempt.status)) 1

pub open_purchases-low : (payments : PaymentsValue) (invoice : ℕ) → pos 0 ≤ℤ open_purchases payments invoice
open_purchases-low [] invoice = omega (arith, ints)
open_purchases-low (entry ∷ entries) invoice =
    let here = open_by-low invoice entry.1 in
    let later = open_purchases-low entries invoice in
    omega (arith, ints)
