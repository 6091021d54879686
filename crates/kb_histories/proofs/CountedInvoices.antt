-- How many invoices have no automatic attempt of a day or later: where there are more, and after an attempt
-- is settled or begins.
use Rattle.std.proofs.Common.{◌≡◌, ℕ, ◌+◌, ◌≤◌, Bool, true, false, not, ◌&&◌, nat_le, cond, List, Option}
use Rattle.std.proofs.Common.{Some, None, refl, sym, subst, arith, true≢false}
use Rattle.std.proofs.lemmas.Bool.{eq-eqb, le-leb}
use Rattle.kb_sharing.specs.Keys.{by_words}
use Rattle.kb_payment.specs.declared.attempt.Attempt.{Attempt}
use Rattle.kb_payment.specs.declared.attempt.Status.{Status}
use Rattle.kb_payment.specs.Attempts.{is_automatic, with_status}
use Rattle.kb_payment.specs.PaymentSums.{PaymentsValue, attempt_of, with_attempt, has_automatic_since}
use Rattle.kb_payment.specs.PaymentEdits.{purchase_of, settled}
use Rattle.kb_book.specs.Edits.{auto_key}
use Rattle.kb_histories.specs.OwnWork.{unattempted}
use Rattle.kb_histories.proofs.RangeSums.{range-le, range-lt, range-few, range-more}
use Rattle.kb_histories.proofs.PutBooks.{list_any-put, list_any-put_new}

-- an attempt is an automatic one of an invoice, of a day or later
abbrev is_since : ℕ → ℕ → Attempt → Bool
is_since day invoice attempt = is_automatic invoice attempt && nat_le day attempt.day

-- an invoice without one counts
abbrev counts : PaymentsValue → ℕ → ℕ → ℕ
counts payments day invoice = cond (not (has_automatic_since payments invoice day)) 1 0

counts-few : (since : Bool) → cond (not since) 1 0 ≤ 1
counts-few true = omega arith
counts-few false = omega arith

counts-le : (new old : Bool) → (old ≡ true → new ≡ true) → cond (not new) 1 0 ≤ cond (not old) 1 0
counts-le true old kept = omega arith
counts-le false false kept = omega arith
counts-le false true kept = absurd (true≢false (sym (kept refl)))

-- at most all of them
pub unattempted-few : (payments : PaymentsValue) (day count : ℕ) → unattempted payments day count ≤ count
unattempted-few payments day count =
    range-few (counts payments day) (λ invoice. counts-few (has_automatic_since payments invoice day)) 1 count

-- of more invoices
pub unattempted-more : (payments : PaymentsValue) (day count more : ℕ)
    → unattempted payments day (count + more) ≤ unattempted payments day count + more
unattempted-more payments day count more =
    range-more (counts payments day) (λ invoice. counts-few (has_automatic_since payments invoice day)) 1
    count more

-- after an attempt is settled
pub unattempted-settled : (payments : PaymentsValue) (key : List ℕ) (status : Status) (day count : ℕ)
    → unattempted (settled payments key status) day count ≤ unattempted payments day count
unattempted-settled payments key status day count = by_found (attempt_of payments key) refl
  where
    by_found : (found : Option Attempt) → attempt_of payments key ≡ found
        → unattempted (settled payments key status) day count ≤ unattempted payments day count
    by_found None is = rw is (omega arith)
    by_found (Some attempt) is =
        let new : PaymentsValue = with_attempt payments key (with_status attempt status) in
        rw is (range-le (counts new day) (counts payments day)
        (λ invoice. counts-le (has_automatic_since new invoice day) (has_automatic_since payments invoice day)
        (list_any-put by_words (is_since day invoice) key (with_status attempt status) payments
        (λ old there passes.
        let same : old ≡ attempt = cc in subst (λ one. is_since day invoice one ≡ true) same passes)))
        1 count)

-- after the automatic payment of one of them begins
pub unattempted-auto : (payments : PaymentsValue) (invoice amount day count : ℕ)
    → attempt_of payments (auto_key invoice day) ≡ None → has_automatic_since payments invoice day ≡ false
    → 1 ≤ invoice → invoice ≤ count
    → unattempted (with_attempt payments (auto_key invoice day) (purchase_of invoice amount day true)) day
    count
    + 1
    ≤ unattempted payments day count
unattempted-auto payments invoice amount day count free none begins ends =
    range-lt (counts new day) (counts payments day) low invoice 1 count begins (omega (arith, ends)) lower
  where
    key : List ℕ
    key = auto_key invoice day

    attempt : Attempt
    attempt = purchase_of invoice amount day true

    new : PaymentsValue
    new = with_attempt payments key attempt

    low : (number : ℕ) → counts new day number ≤ counts payments day number
    low number =
        counts-le (has_automatic_since new number day) (has_automatic_since payments number day)
        (list_any-put by_words (is_since day number) key attempt payments (λ old there. absurd (cc)))

    since : has_automatic_since new invoice day ≡ true
    since =
        list_any-put_new by_words (is_since day invoice) key attempt payments
        (rw (eq-eqb invoice invoice refl, le-leb day day (omega arith)) refl)

    lower : counts new day invoice + 1 ≤ counts payments day invoice
    lower = rw (since, none) (omega arith)
