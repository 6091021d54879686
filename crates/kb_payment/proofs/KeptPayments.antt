-- What always holds of payments holds after each edit.
use Rattle.std.proofs.Common.{◌≡◌, ℕ, sym, ap, subst, ◌∙◌, refl, Bool, true, false, cond, List, Option, None}
use Rattle.std.proofs.Common.{Some}
use Rattle.std.proofs.Common.{pos, ◌+ℤ◌, ◌≤ℤ◌, arith, bytes_eq, IfSome}
use Rattle.std.specs.Cmp.Lexicographic.{nat_list_cmp_total}
use Rattle.std.specs.FinMap.Entries.{is_sorted-put}
use Rattle.std.proofs.lemmas.Int.{ints}
use Rattle.std.proofs.lemmas.Slice.Eq.{bytes_eq-Decides}
use Rattle.kb_payment.specs.declared.attempt.Attempt.{Attempt}
use Rattle.kb_payment.specs.Attempts.{is_paid_purchase, taken_by, open_by}
use Rattle.kb_sharing.specs.Keys.{by_words}
use Rattle.kb_payment.specs.PaymentSums.{PaymentsValue, attempt_of, with_attempt, taken_of, open_purchases}
use Rattle.kb_payment.specs.SoundPayments.{IsSound, ArePayments}
use Rattle.kb_payment.proofs.PutEntries.{same_keys}
use Rattle.kb_payment.proofs.PutSums.{sum-put_new, sum-put_old}
use Rattle.kb_payment.proofs.FoundAttempts.{attempt_of-with, Stay-new, Stay-other}
use Rattle.kb_payment.proofs.SoundAttempts.{All-sound}
use Rattle.kb_payment.proofs.TakenSums.{taken_by-fresh, taken_of-fresh}

-- sums after an attempt of a new key
pub taken_of-new : (payments : PaymentsValue) (key : List ℕ) (attempt : Attempt)
    → attempt_of payments key ≡ None
    → (of : List ℕ)
    → taken_of (with_attempt payments key attempt) of ≡ taken_of payments of +ℤ taken_by of attempt
taken_of-new payments key attempt fresh of = sum-put_new by_words (taken_by of) key attempt payments fresh

pub open_purchases-new : (payments : PaymentsValue) (key : List ℕ) (attempt : Attempt)
    → attempt_of payments key ≡ None
    → (invoice : ℕ) → open_purchases (with_attempt payments key attempt) invoice
    ≡ open_purchases payments invoice +ℤ open_by invoice attempt
open_purchases-new payments key attempt fresh invoice =
    sum-put_new by_words (open_by invoice) key attempt payments fresh

-- an attempt of a new key is added
pub ArePayments-new : (payments : PaymentsValue) (key : List ℕ) (attempt : Attempt) → ArePayments payments
    → attempt_of payments key ≡ None → IsSound payments attempt
    → ((of : List ℕ) → IfSome (attempt_of payments of)
    (λ purchase. (taken_of payments of +ℤ taken_by of attempt) ≤ℤ pos purchase.amount))
    → ((invoice : ℕ) → (open_purchases payments invoice +ℤ open_by invoice attempt) ≤ℤ pos 1)
    → ArePayments (with_attempt payments key attempt)
ArePayments-new payments key attempt are fresh sound covers single = record {
  sorted = is_sorted-put by_words nat_list_cmp_total key attempt payments are.sorted;
  sound = All-sound payments key attempt (Stay-new is_paid_purchase payments key attempt fresh) are.sound
      sound;
  covered = λ of. subst
      (λ (o : Option Attempt). IfSome o
      (λ purchase. taken_of (with_attempt payments key attempt) of ≤ℤ pos purchase.amount))
      (sym (attempt_of-with payments key attempt of)) (by_test of (bytes_eq of key) refl);
  single = λ invoice. subst (λ n. n ≤ℤ pos 1) (sym (open_purchases-new payments key attempt fresh invoice))
      (single invoice);
}
  where
    by_test : (of : List ℕ) (same : Bool) → bytes_eq of key ≡ same
        → IfSome (cond same (Some attempt) (attempt_of payments of))
        (λ purchase. taken_of (with_attempt payments key attempt) of ≤ℤ pos purchase.amount)
    by_test of true is =
        let one : of ≡ key = (bytes_eq-Decides of key).0 is in
        let none = ap (attempt_of payments) one ∙ fresh in
        let before = taken_of-fresh payments of none are.sound in
        let here = taken_by-fresh payments of attempt none sound in
        let after = taken_of-new payments key attempt fresh of in
        omega (arith, ints)
    by_test of false is =
        subst (λ n. IfSome (attempt_of payments of) (λ purchase. n ≤ℤ pos purchase.amount))
        (sym (taken_of-new payments key attempt fresh of)) (covers of)

-- The attempt of a key is replaced by one of the same kind, invoice and amount: it was open, so that no other
-- one names it, and it takes and holds open no more than before.
pub ArePayments-settled : (payments : PaymentsValue) (key : List ℕ) (old new : Attempt) → ArePayments payments
    → attempt_of payments key ≡ Some old → is_paid_purchase old ≡ false → IsSound payments new
    → new.amount ≡ old.amount
    → ((of : List ℕ) → taken_by of new ≤ℤ taken_by of old)
    → ((invoice : ℕ) → open_by invoice new ≤ℤ open_by invoice old)
    → ArePayments (with_attempt payments key new)
ArePayments-settled payments key old new are there unpaid sound amount takes opens = record {
  sorted = is_sorted-put by_words nat_list_cmp_total key new payments are.sorted;
  sound = All-sound payments key new (Stay-other is_paid_purchase payments key new old there unpaid)
      are.sound sound;
  covered = λ of. subst
      (λ (o : Option Attempt). IfSome o
      (λ purchase. taken_of (with_attempt payments key new) of ≤ℤ pos purchase.amount))
      (sym (attempt_of-with payments key new of)) (by_test of (bytes_eq of key) refl);
  single = λ invoice.
      let sums = sum-put_old by_words (open_by invoice) nat_list_cmp_total same_keys key new old payments
      are.sorted there in
      let before = are.single invoice in
      let less = opens invoice in
      omega (arith, ints);
}
  where
    fewer : (of : List ℕ) → taken_of (with_attempt payments key new) of ≤ℤ taken_of payments of
    fewer of =
        let sums = sum-put_old by_words (taken_by of) nat_list_cmp_total same_keys key new old payments
        are.sorted there in
        let less = takes of in
        omega (arith, ints)

    covers : (of : List ℕ) (o : Option Attempt)
        → IfSome o (λ purchase. taken_of payments of ≤ℤ pos purchase.amount)
        → IfSome o (λ purchase. taken_of (with_attempt payments key new) of ≤ℤ pos purchase.amount)
    covers of None is = is
    covers of (Some purchase) is = let less = fewer of in omega (arith, ints)

    by_test : (of : List ℕ) (same : Bool) → bytes_eq of key ≡ same
        → IfSome (cond same (Some new) (attempt_of payments of))
        (λ purchase. taken_of (with_attempt payments key new) of ≤ℤ pos purchase.amount)
    by_test of true is =
        let one : of ≡ key = (bytes_eq-Decides of key).0 is in
        let there_too : attempt_of payments of ≡ Some old = ap (attempt_of payments) one ∙ there in
        let before =
        subst (λ (o : Option Attempt). IfSome o
        (λ purchase. taken_of payments of ≤ℤ pos purchase.amount)) there_too (are.covered of) in
        let less = fewer of in
        let same = amount in
        omega (arith, ints)
    by_test of false is = covers of (attempt_of payments of) (are.covered of)
