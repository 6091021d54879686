-- A refund or a chargeback that isn't refused leaves payments as they always are.
use Rattle.std.proofs.Common.{◌≡◌, ℕ, ◌+◌, sym, ap, subst, ◌∙◌, refl, Bool, true, false, List, Option, None}
use Rattle.std.proofs.Common.{Some}
use Rattle.std.proofs.Common.{pos, ◌+ℤ◌, ◌≤ℤ◌, ◌&&◌, ◌||◌, arith, IfSome, IsSomeAnd, ◌==◌, bytes_eq}
use Rattle.std.proofs.Common.{if◌then◌else◌, nat_le}
use Rattle.std.specs.FinMap.{put}
use Rattle.std.proofs.lemmas.Int.{ints}
use Rattle.std.proofs.lemmas.Slice.Eq.{bytes_eq-Decides}
use Rattle.kb_payment.specs.declared.attempt.Attempt.{Attempt}
use Rattle.kb_payment.specs.declared.attempt.Kind.{Kind}
use Rattle.kb_payment.specs.declared.attempt.Kind.TheVariants.{Refund, Chargeback}
use Rattle.kb_payment.specs.declared.attempt.Status.{Status}
use Rattle.kb_payment.specs.declared.attempt.Status.TheVariants.{Unknown, Success}
use Rattle.kb_payment.specs.declared.on_invoice.OnInvoice.{OnInvoice}
use Rattle.kb_payment.specs.Attempts.{is_open, is_success, is_paid_purchase, taken_by, open_by, is_automatic}
use Rattle.kb_sharing.specs.Keys.{by_words}
use Rattle.kb_payment.specs.PaymentSums.{PaymentsValue, attempt_of, with_attempt, taken_of}
use Rattle.kb_payment.specs.PaymentSums.{has_automatic_since}
use Rattle.kb_payment.specs.PaymentEdits.{give_back_of}
use Rattle.kb_payment.specs.SoundPayments.{NamesPaid, IsSound, ArePayments}
use Rattle.kb_payment.specs.Private.KeptSums.{AreKept}
use Rattle.kb_payment.specs.Private.GivenBack.{IsCovered, GivesBack, IsGiveBack}
use Rattle.kb_payment.proofs.PutEntries.{list_any-put_new}
use Rattle.kb_payment.proofs.KeptPayments.{ArePayments-new, taken_of-new, open_purchases-new}
use Rattle.kb_payment.proofs.KeptBeside.{AreKept-put_taken}

pub refund_gives : GivesBack Refund Unknown
refund_gives = record { counts = refl; takes = refl }

pub chargeback_gives : GivesBack Chargeback Success
chargeback_gives = record { counts = refl; takes = refl }

-- it names a successful purchase on its invoice
names_paid : (payments : PaymentsValue) (key of : List ℕ) (purchase : Attempt) (amount : ℕ)
    → IsCovered payments key of purchase amount → NamesPaid payments purchase.invoice (Some of)
names_paid payments key of purchase amount covered =
    subst (λ (o : Option Attempt). IsSomeAnd o
    (λ found. (is_paid_purchase found ≡ true) × (found.invoice ≡ purchase.invoice)))
    (sym covered.there) (covered.paid, refl)

pub refund_sound : (payments : PaymentsValue) (key of : List ℕ) (purchase : Attempt) (amount day : ℕ)
    → IsCovered payments key of purchase amount
    → IsSound payments (give_back_of Refund Unknown of purchase amount day)
refund_sound payments key of purchase amount day covered = names_paid payments key of purchase amount covered

pub chargeback_sound : (payments : PaymentsValue) (key of : List ℕ) (purchase : Attempt) (amount day : ℕ)
    → IsCovered payments key of purchase amount
    → IsSound payments (give_back_of Chargeback Success of purchase amount day)
chargeback_sound payments key of purchase amount day covered =
    (names_paid payments key of purchase amount covered, refl)

-- it takes its amount of the purchase that it names, and of no other
taken_by-here : (kind : Kind) (status : Status) (of : List ℕ) (purchase : Attempt) (amount day : ℕ)
    (key : List ℕ)
    → GivesBack kind status
    → taken_by key (give_back_of kind status of purchase amount day)
    ≡ (if bytes_eq key of then pos amount else pos 0)
taken_by-here kind status of purchase amount day key gives = by_test (bytes_eq key of)
  where
    by_test : (same : Bool) → (if same && (is_success status || is_open status) then pos amount else pos 0)
        ≡ (if same then pos amount else pos 0)
    by_test true = ap (λ b. if b then pos amount else pos 0) gives.counts
    by_test false = refl

-- it is no open purchase
open_by-none : (kind : Kind) (status : Status) (of : List ℕ) (purchase : Attempt) (amount day invoice : ℕ)
    → GivesBack kind status → open_by invoice (give_back_of kind status of purchase amount day) ≡ pos 0
open_by-none kind status of purchase amount day invoice gives =
    ap (λ b. if (purchase.invoice == invoice) && (b && is_open status) then pos 1 else pos 0) gives.takes
    ∙ by_test (purchase.invoice == invoice)
  where
    by_test : (same : Bool) → (if same && false then pos 1 else pos 0) ≡ pos 0
    by_test true = refl
    by_test false = refl

is_automatic-none : (kind : Kind) (status : Status) (of : List ℕ) (purchase : Attempt)
    (amount day invoice : ℕ)
    → is_automatic invoice (give_back_of kind status of purchase amount day) ≡ false
is_automatic-none kind status of purchase amount day invoice = by_test (purchase.invoice == invoice)
  where
    by_test : (same : Bool) → (same && false) ≡ false
    by_test true = refl
    by_test false = refl

-- payments stay what they always are
pub ArePayments-given_back : (kind : Kind) (status : Status) (payments : PaymentsValue) (key of : List ℕ)
    → (purchase : Attempt) (amount day : ℕ) → ArePayments payments → IsCovered payments key of purchase amount
    → GivesBack kind status → IsSound payments (give_back_of kind status of purchase amount day)
    → ArePayments (with_attempt payments key (give_back_of kind status of purchase amount day))
ArePayments-given_back kind status payments key of purchase amount day are covered gives sound =
    ArePayments-new payments key (give_back_of kind status of purchase amount day) are covered.fresh sound
    (λ asked. subst
    (λ n. IfSome (attempt_of payments asked)
    (λ found. (taken_of payments asked +ℤ n) ≤ℤ pos found.amount))
    (sym (taken_by-here kind status of purchase amount day asked gives))
    (covers asked (bytes_eq asked of) refl))
    (λ invoice.
    let none = open_by-none kind status of purchase amount day invoice gives in
    let most = are.single invoice in
    omega (arith, ints))
  where
    covers : (asked : List ℕ) (same : Bool) → bytes_eq asked of ≡ same
        → IfSome (attempt_of payments asked)
        (λ found. (taken_of payments asked +ℤ (if same then pos amount else pos 0)) ≤ℤ pos found.amount)
    covers asked true is =
        let one : of ≡ asked = sym ((bytes_eq-Decides asked of).0 is) in
        subst (λ k. IfSome (attempt_of payments k)
        (λ found. (taken_of payments k +ℤ pos amount) ≤ℤ pos found.amount)) one
        (subst (λ (o : Option Attempt). IfSome o
        (λ found. (taken_of payments of +ℤ pos amount) ≤ℤ pos found.amount))
        (sym covered.there) covered.within)
    covers asked false is = unchanged (attempt_of payments asked) (are.covered asked)
      where
        unchanged : (o : Option Attempt) → IfSome o (λ found. taken_of payments asked ≤ℤ pos found.amount)
            → IfSome o (λ found. (taken_of payments asked +ℤ pos 0) ≤ℤ pos found.amount)
        unchanged None before = before
        unchanged (Some found) before = omega (arith, ints)

-- what is kept of the purchase grows by the amount
pub AreKept-given_back : (kind : Kind) (status : Status) (payments : PaymentsValue)
    (taken : List (List ℕ × ℕ))
    → (invoices : List (List ℕ × OnInvoice)) (key of : List ℕ) (purchase : Attempt) (amount day before : ℕ)
    → AreKept payments taken invoices → attempt_of payments key ≡ None → GivesBack kind status
    → pos before ≡ taken_of payments of
    → AreKept (with_attempt payments key (give_back_of kind status of purchase amount day))
    (put by_words of (before + amount) taken) invoices
AreKept-given_back kind status payments taken invoices key of purchase amount day before are fresh gives was =
    AreKept-put_taken payments (with_attempt payments key (give_back_of kind status of purchase amount day))
    taken invoices of
    (before + amount) are
    (let sums = taken_of-new payments key (give_back_of kind status of purchase amount day) fresh of in
    let here = taken_by-here kind status of purchase amount day of gives in
    let itself = ap (λ b. if b then pos amount else pos 0) ((bytes_eq-Decides of of).1 refl) in
    omega (arith, ints))
    (λ asked is.
    let sums = taken_of-new payments key (give_back_of kind status of purchase amount day) fresh asked in
    let here = taken_by-here kind status of purchase amount day asked gives in
    let other = ap (λ b. if b then pos amount else pos 0) is in
    omega (arith, ints))
    (λ invoice. record {
      opens =
          let sums = open_purchases-new payments key (give_back_of kind status of purchase amount day) fresh
          invoice in
          let none = open_by-none kind status of purchase amount day invoice gives in
          omega (arith, ints);
      automatics = λ asked.
          list_any-put_new by_words (λ (a : Attempt). is_automatic invoice a && nat_le asked a.day) key
          (give_back_of kind status of purchase amount day) payments fresh
          ∙ ap (λ b. (b && nat_le asked day) || has_automatic_since payments invoice asked)
          (is_automatic-none kind status of purchase amount day invoice);
    })

-- a refund and a chargeback of a purchase that covers them
pub refund_is : (payments : PaymentsValue) (key of : List ℕ) (purchase : Attempt) (amount day : ℕ)
    → IsCovered payments key of purchase amount
    → IsGiveBack payments key of (give_back_of Refund Unknown of purchase amount day)
refund_is payments key of purchase amount day covered = record {
  purchase = purchase;
  covered = covered;
  is = refl;
  gives = refund_gives;
  sound = refund_sound payments key of purchase amount day covered;
}

pub chargeback_is : (payments : PaymentsValue) (key of : List ℕ) (purchase : Attempt) (amount day : ℕ)
    → IsCovered payments key of purchase amount
    → IsGiveBack payments key of (give_back_of Chargeback Success of purchase amount day)
chargeback_is payments key of purchase amount day covered = record {
  purchase = purchase;
  covered = covered;
  is = refl;
  gives = chargeback_gives;
  sound = chargeback_sound payments key of purchase amount day covered;
}
