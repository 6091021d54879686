-- What a command on payments moves.
use Rattle.std.proofs.Common.{◌≡◌, ℕ, ◌^◌, ◌≤◌, ◌<◌, Bool, true, false, not, ◌&&◌, List, [], Option, Some}
use Rattle.std.proofs.Common.{None, is_some, ℤ, pos, neg_ℤ, nat_abs, ◌+ℤ◌, ◌==◌, if◌then◌else◌, refl, sym, ap}
use Rattle.std.proofs.Common.{subst, ◌∙◌, arith, eq-eqb}
use Rattle.std.proofs.lemmas.Int.{ints}
use Rattle.kb_payment.specs.declared.attempt.Attempt.{Attempt}
use Rattle.kb_payment.specs.declared.attempt.Kind.TheVariants.{Refund, Chargeback}
use Rattle.kb_payment.specs.declared.attempt.Status.{Status}
use Rattle.kb_payment.specs.declared.attempt.Status.TheVariants.{Unknown, Success}
use Rattle.kb_payment.specs.Attempts.{is_open, with_status}
use Rattle.kb_payment.specs.PaymentSums.{PaymentsValue, attempt_of, with_attempt, paid_on, Moves}
use Rattle.kb_payment.specs.PaymentEdits.{amount_of, purchase_of, purchased, give_back_of, refunded}
use Rattle.kb_payment.specs.PaymentEdits.{charged_back, settled, give_back_fault}
use Rattle.kb_payment.specs.SoundPayments.{ArePayments}
use Rattle.kb_book.proofs.PaidMoves.{put-moves, settle-moves, pays, nat_abs-pays, nat_abs-pos}
use Rattle.kb_codec.specs.declared.action.Pay.{Pay}
use Rattle.kb_credit.specs.InvoiceRows.{InvoicesValue}
use Rattle.kb_book.specs.declared.refusal.Refusal.TheVariants as refusal
use Rattle.kb_book.specs.Rows.{first_refusal}
use Rattle.kb_book.specs.PaymentRows.{is_own_key, pay_rows, give_back_rows, fault_rows, settle_rows}
use Rattle.kb_book.specs.PaymentRows.{may_settle, same_status}
use Rattle.kb_book.proofs.AcceptedPayments.{first-none, pay-new}
use Rattle.kb_book.proofs.InvoicedAttempts.{AreInvoiced, invoiced-found}
use Rattle.kb_account.specs.declared.begun.Move.{Move}
use Rattle.kb_account.specs.Private.Begins.{HasMoved, invoice_of, invoice_by}

-- nothing moves
abbrev pub nothing : Move
nothing = record { invoice = 0; amount = pos 0 }

-- what isn't there is none
no-attempt : (found : Option Attempt) → is_some found ≡ false → found ≡ None
no-attempt None is = refl
no-attempt (Some attempt) is = absurd (cc)

-- what stays hasn't moved
pub stays-moved : (old new : PaymentsValue) → ((asked : ℕ) → paid_on new asked ≡ paid_on old asked)
    → HasMoved old new nothing
stays-moved old new same = record { by = λ asked. same asked ∙ none asked (0 == asked); small = omega arith }
  where
    none : (asked : ℕ) (here : Bool) → paid_on old asked
        ≡ paid_on old asked +ℤ (if here then pos 0 else pos 0)
    none asked true = omega (arith, ints)
    none asked false = omega (arith, ints)

-- an attempt of a new key that pays nothing moves nothing
pub new-moved : (old new : PaymentsValue) (key : List ℕ) (attempt : Attempt)
    → new ≡ with_attempt old key attempt
    → attempt_of old key ≡ None → pays attempt ≡ pos 0 → HasMoved old new nothing
new-moved old new key attempt is fresh none =
    stays-moved old new
    (λ asked. ap (λ (payments : PaymentsValue). paid_on payments asked) is
    ∙ put-moves old key attempt fresh asked
    ∙ ap (λ (sum : ℤ). paid_on old asked +ℤ (if attempt.invoice == asked then sum else pos 0)) none
    ∙ stays asked (attempt.invoice == asked))
  where
    stays : (asked : ℕ) (here : Bool) → paid_on old asked +ℤ (if here then pos 0 else pos 0)
        ≡ paid_on old asked
    stays asked true = omega (arith, ints)
    stays asked false = omega (arith, ints)

-- nor does a payment
pub pay-moved : (old new : PaymentsValue) (invoices : InvoicesValue) (c : Pay) (balance : ℤ) (day : ℕ)
    → first_refusal (pay_rows old invoices c) ≡ None
    → new ≡ purchased old c.payment c.invoice balance c.amount day false → HasMoved old new nothing
pay-moved old new invoices c balance day none is =
    new-moved old new c.payment (purchase_of c.invoice (amount_of balance c.amount) day false) is
    (no-attempt (attempt_of old c.payment) (pay-new old invoices c none).1) refl

-- a refund or a chargeback that isn't refused is of a new key, and of a purchase that is there
pub give_back-found : (old : PaymentsValue) (key of : List ℕ) (amount : ℕ)
    → first_refusal (give_back_rows old key of amount) ≡ None
    → (attempt_of old key ≡ None) × ((purchase : Attempt) × (attempt_of old of ≡ Some purchase))
give_back-found old key of amount none =
    by_key (attempt_of old key) refl (attempt_of old of) refl
    (first-none (is_own_key key) refusal.BadName (fault_rows (give_back_fault old key of amount)) none).1
  where
    by_key : (taken : Option Attempt) → attempt_of old key ≡ taken → (found : Option Attempt)
        → attempt_of old of ≡ found
        → first_refusal (fault_rows (give_back_fault old key of amount)) ≡ None
        → (attempt_of old key ≡ None) × ((purchase : Attempt) × (attempt_of old of ≡ Some purchase))
    by_key (Some attempt) taken found there accepted = absurd (let told = rw taken at accepted in cc)
    by_key None taken None there accepted = absurd (let told = rw (taken, there) at accepted in cc)
    by_key None taken (Some purchase) there accepted = (taken, (purchase, there))

-- a refund moves nothing
pub refund-moved : (old new : PaymentsValue) (key of : List ℕ) (amount day : ℕ)
    → first_refusal (give_back_rows old key of amount) ≡ None → new ≡ refunded old key of amount day
    → HasMoved old new nothing
refund-moved old new key of amount day none is =
    let found = give_back-found old key of amount none in
    new-moved old new key (give_back_of Refund Unknown of found.1.0 amount day)
    (rw found.1.1 at is) found.0 refl

-- a chargeback moves its amount off the purchase's invoice
pub chargeback-moved : (old new : PaymentsValue) (key of : List ℕ) (amount day invoice : ℕ) (moved : ℤ)
    → first_refusal (give_back_rows old key of amount) ≡ None → new ≡ charged_back old key of amount day
    → invoice ≡ invoice_of old of → moved ≡ neg_ℤ (pos amount) → amount ≤ 2 ^ 64
    → HasMoved old new (record { invoice = invoice; amount = moved })
chargeback-moved old new key of amount day invoice moved none is at by low =
    let found = give_back-found old key of amount none in
    let purchase = found.1.0 in
    let attempt = give_back_of Chargeback Success of purchase amount day in
    let made : new ≡ with_attempt old key attempt = rw found.1.1 at is in
    let place : purchase.invoice ≡ invoice = sym (at ∙ ap invoice_by found.1.1) in
    record {
      by =
          subst (λ (payments : PaymentsValue). Moves old payments invoice moved) (sym made)
          (subst (λ (number : ℕ). Moves old (with_attempt old key attempt) number moved) place
          (subst (λ (sum : ℤ). Moves old (with_attempt old key attempt) purchase.invoice sum) (sym by)
          (put-moves old key attempt found.0)));
      small = let size = ap nat_abs by in omega (arith, size, nat_abs-pos amount);
    }

-- two amounts that move the same on an invoice are one
moves-once : (old new : PaymentsValue) (invoice : ℕ) (one two : ℤ) → Moves old new invoice one
    → Moves old new invoice two → one ≡ two
moves-once old new invoice one two first second =
    let here : (invoice == invoice) ≡ true = eq-eqb invoice invoice refl in
    let a : paid_on new invoice ≡ paid_on old invoice +ℤ one = rw here at (first invoice) in
    let b : paid_on new invoice ≡ paid_on old invoice +ℤ two = rw here at (second invoice) in
    omega (arith, ints)

-- a settlement moves what it says on the attempt's invoice
pub settle-moved : (old new : PaymentsValue) (key : List ℕ) (attempt : Attempt) (status : Status)
    (invoice : ℕ) (moved : ℤ)
    → first_refusal (settle_rows old key status) ≡ None → new ≡ settled old key status → ArePayments old
    → attempt_of old key ≡ Some attempt → invoice ≡ attempt.invoice → Moves old new attempt.invoice moved
    → attempt.amount < 2 ^ 64 → HasMoved old new (record { invoice = invoice; amount = moved })
settle-moved old new key attempt status invoice moved none is are there place told few =
    let may : not (may_settle (attempt_of old key) status) ≡ false =
    (first-none (not (may_settle (attempt_of old key) status)) refusal.PaymentState [] none).0 in
    let made : new ≡ with_attempt old key (with_status attempt status) = rw there at is in
    let after : Attempt = with_status attempt status in
    let worth : ℤ = pays after in
    let by : Moves old new attempt.invoice worth =
    subst (λ (payments : PaymentsValue). Moves old payments attempt.invoice worth) (sym made)
    (settle-moves old key attempt status are.sorted there
    (opened (is_open attempt.status) (not (same_status attempt.status status)) (rw there at may))) in
    let same = moves-once old new attempt.invoice moved worth told by in
    record {
      by = subst (λ (number : ℕ). Moves old new number moved) (sym place) told;
      small = let size = ap nat_abs same in omega (arith, size, few, nat_abs-pays after);
    }
  where
    opened : (is_opened other : Bool) → not (is_opened && other) ≡ false → is_opened ≡ true
    opened true other may = refl
    opened false other may = absurd (cc)

-- the invoice of an attempt is there
pub invoice-there : (count : ℕ) (payments : PaymentsValue) (key : List ℕ) → AreInvoiced count payments
    → invoice_of payments key ≤ count
invoice-there count payments key invoiced = by_found (attempt_of payments key) refl
  where
    by_found : (found : Option Attempt) → attempt_of payments key ≡ found → invoice_of payments key ≤ count
    by_found None there = subst (λ (number : ℕ). number ≤ count) (sym (ap invoice_by there)) (omega arith)
    by_found (Some attempt) there =
        subst (λ (number : ℕ). number ≤ count) (sym (ap invoice_by there))
        (invoiced-found count payments key attempt invoiced there)
