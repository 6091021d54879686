-- A purchase that isn't refused leaves payments as they always are.
use Rattle.std.proofs.Common.{◌≡◌, ℕ, sym, ap, subst, ◌∙◌, refl, Bool, true, false, not, T, List, [], ◌∷◌}
use Rattle.std.proofs.Common.{Option, None, Some}
use Rattle.std.proofs.Common.{ℤ, pos, ◌+ℤ◌, ◌≤ℤ◌, ◌≤◌, ◌&&◌, ◌||◌, arith, IfSome, is_some, nat_lt, int_lt}
use Rattle.std.proofs.Common.{max, ◌==◌}
use Rattle.std.proofs.Common.{if◌then◌else◌, nat_le}
use Rattle.std.specs.FinMap.{put}
use Rattle.std.proofs.lemmas.Int.{ints}
use Rattle.std.proofs.lemmas.Bool.{eq-eqb, eqb-true, or_parts, ltb-false, le-leb, leb-true, leb-false}
use Rattle.std.proofs.lemmas.Bool.{false_from_ne_true}
use Rattle.kb_payment.specs.declared.attempt.Attempt.{Attempt}
use Rattle.kb_payment.specs.declared.on_invoice.OnInvoice.{OnInvoice}
use Rattle.kb_payment.specs.declared.fault.PayFault.TheVariants.{KeyReused, NothingDue, AttemptOpen}
use Rattle.kb_payment.specs.declared.fault.PayFault.TheVariants.{AmountTooLarge}
use Rattle.kb_payment.specs.Attempts.{open_by, is_automatic}
use Rattle.kb_sharing.specs.Keys.{by_words}
use Rattle.kb_payment.specs.PaymentSums.{PaymentsValue, attempt_of, with_attempt, taken_of, open_purchases}
use Rattle.kb_payment.specs.PaymentSums.{has_automatic_since}
use Rattle.kb_payment.specs.PaymentEdits.{max_purchase, amount_of, is_too_large, purchase_of, purchase_fault}
use Rattle.kb_payment.specs.SoundPayments.{ArePayments}
use Rattle.kb_payment.specs.Private.KeptSums.{is_since, latest, AreKept}
use Rattle.kb_payment.proofs.PutEntries.{list_any-put_new}
use Rattle.kb_payment.proofs.TakenSums.{open_purchases-low}
use Rattle.kb_payment.proofs.KeptPayments.{ArePayments-new, taken_of-new, open_purchases-new}
use Rattle.kb_payment.proofs.KeptBeside.{HaveSameSums, AreKept-put_invoice}

-- what a purchase that isn't refused may count on
pub record IsAllowed (payments : PaymentsValue) (key : List ℕ) (invoice : ℕ) (balance : ℤ)
    (amount : Option ℕ) : Type 0 where
  pub fresh : attempt_of payments key ≡ None
  pub idle : open_purchases payments invoice ≡ pos 0
  pub bounded : amount_of balance amount ≤ max_purchase

none_of : {A : Type 0} (o : Option A) → is_some o ≡ false → o ≡ None
none_of None is = refl
none_of (Some x) is = absurd (subst T is tt)

not_more : (n : ℤ) → int_lt (pos 0) n ≡ false → pos 0 ≤ℤ n → n ≡ pos 0
not_more n is low = omega (arith, ints)

bounded : (balance : ℤ) (amount : Option ℕ) → is_too_large balance amount ≡ false
    → amount_of balance amount ≤ max_purchase
bounded balance None is = omega arith
bounded balance (Some amount) is = let within =
    (or_parts (int_lt balance (pos amount)) (nat_lt max_purchase amount) is).1 in omega (arith, ltb-false)

-- the four tests, one after another
pub IsAllowed-purchase : (payments : PaymentsValue) (key : List ℕ) (invoice : ℕ) (balance : ℤ)
    (amount : Option ℕ)
    → purchase_fault payments key invoice balance amount ≡ None
    → IsAllowed payments key invoice balance amount
IsAllowed-purchase payments key invoice balance amount none =
    first (is_some (attempt_of payments key)) (not (int_lt (pos 0) balance))
    (int_lt (pos 0) (open_purchases payments invoice))
    (is_too_large balance amount) refl refl refl none
  where
    first : (a b c d : Bool) → is_some (attempt_of payments key) ≡ a
        → int_lt (pos 0) (open_purchases payments invoice) ≡ c
        → is_too_large balance amount ≡ d
        → (if a then Some KeyReused else if b then Some NothingDue else if c then Some AttemptOpen
        else if d then Some AmountTooLarge else None) ≡ None
        → IsAllowed payments key invoice balance amount
    first true b c d old busy large none = absurd (subst (λ o. T (is_some o)) none tt)
    first false true c d old busy large none = absurd (subst (λ o. T (is_some o)) none tt)
    first false false true d old busy large none = absurd (subst (λ o. T (is_some o)) none tt)
    first false false false true old busy large none = absurd (subst (λ o. T (is_some o)) none tt)
    first false false false false old busy large none = record {
      fresh = none_of (attempt_of payments key) old;
      idle = not_more (open_purchases payments invoice) busy (open_purchases-low payments invoice);
      bounded = bounded balance amount large;
    }

-- an open purchase counts on its own invoice alone
open_by-here : (invoice amount day : ℕ) (auto : Bool)
    → open_by invoice (purchase_of invoice amount day auto) ≡ pos 1
open_by-here invoice amount day auto =
    ap (λ b. if b && true then pos 1 else pos 0) (eq-eqb invoice invoice refl)

-- so there is at most one
open_by-most : (payments : PaymentsValue) (invoice amount day : ℕ) (auto : Bool) (other : ℕ)
    → open_purchases payments other ≤ℤ pos 1 → open_purchases payments invoice ≡ pos 0
    → (open_purchases payments other +ℤ open_by other (purchase_of invoice amount day auto)) ≤ℤ pos 1
open_by-most payments invoice amount day auto other most idle = by_test (invoice == other) refl
  where
    by_test : (same : Bool) → (invoice == other) ≡ same
        → (open_purchases payments other +ℤ (if same && true then pos 1 else pos 0)) ≤ℤ pos 1
    by_test true is =
        let none : open_purchases payments other
        ≡ pos 0 = ap (open_purchases payments) (sym (eqb-true invoice other is)) ∙ idle in
        omega (arith, ints)
    by_test false is = omega (arith, ints)

-- a purchase takes nothing, so what is taken is covered as before
taken-same : (payments : PaymentsValue) (of : List ℕ) (o : Option Attempt)
    → IfSome o (λ purchase. taken_of payments of ≤ℤ pos purchase.amount)
    → IfSome o (λ purchase. (taken_of payments of +ℤ pos 0) ≤ℤ pos purchase.amount)
taken-same payments of None is = is
taken-same payments of (Some purchase) is = omega (arith, ints)

-- payments stay what they always are
pub ArePayments-purchased : (payments : PaymentsValue) (key : List ℕ) (invoice amount day : ℕ) (auto : Bool)
    → ArePayments payments → attempt_of payments key ≡ None → open_purchases payments invoice ≡ pos 0
    → amount ≤ max_purchase
    → ArePayments (with_attempt payments key (purchase_of invoice amount day auto))
ArePayments-purchased payments key invoice amount day auto are fresh idle bounded =
    ArePayments-new payments key (purchase_of invoice amount day auto) are fresh (refl, bounded)
    (λ of. taken-same payments of (attempt_of payments of) (are.covered of))
    (λ other. open_by-most payments invoice amount day auto other (are.single other) idle)

or-false : (b : Bool) → b ≡ (b || false)
or-false true = refl
or-false false = refl

within-max : (asked day last : ℕ) → nat_le asked (max day last) ≡ (nat_le asked day || nat_le asked last)
within-max asked day last = by_tests (nat_le asked day) (nat_le asked last) refl refl
  where
    by_tests : (a b : Bool) → nat_le asked day ≡ a → nat_le asked last ≡ b
        → nat_le asked (max day last) ≡ (a || b)
    by_tests true b one other =
        le-leb asked (max day last) (let within = leb-true asked day one in omega arith)
    by_tests false true one other =
        le-leb asked (max day last) (let within = leb-true asked last other in omega arith)
    by_tests false false one other = false_from_ne_true (nat_le asked (max day last)) (λ is.
        let within = leb-true asked (max day last) is in
        let first = leb-false asked day one in
        let second = leb-false asked last other in
        absurd (omega arith))

latest-is_since : (auto : Bool) (day : ℕ) (last : Option ℕ) (asked : ℕ)
    → is_since (latest auto day last) asked ≡ ((auto && nat_le asked day) || is_since last asked)
latest-is_since false day last asked = refl
latest-is_since true day None asked = or-false (nat_le asked day)
latest-is_since true day (Some last) asked = within-max asked day last

same-sums : (payments : PaymentsValue) (key : List ℕ) (invoice amount day : ℕ) (auto : Bool) (other : ℕ)
    → attempt_of payments key ≡ None → (invoice == other) ≡ false
    → HaveSameSums payments (with_attempt payments key (purchase_of invoice amount day auto)) other
same-sums payments key invoice amount day auto other fresh is =
    let attempt = purchase_of invoice amount day auto in
    record {
      opens =
          let sums = open_purchases-new payments key attempt fresh other in
          let none = ap (λ b. if b && true then pos 1 else pos 0) is in
          omega (arith, ints);
      automatics = λ asked.
          list_any-put_new by_words (λ (a : Attempt). is_automatic other a && nat_le asked a.day) key attempt
          payments fresh
          ∙ ap (λ b. ((b && auto) && nat_le asked day) || has_automatic_since payments other asked) is;
    }

pub AreKept-purchased : (payments : PaymentsValue) (taken : List (List ℕ × ℕ))
    (invoices : List (List ℕ × OnInvoice))
    → (key : List ℕ) (invoice paid day : ℕ) (auto : Bool) (kept : OnInvoice) (last : Option ℕ)
    → AreKept payments taken invoices → attempt_of payments key ≡ None
    → open_purchases payments invoice ≡ pos 0
    → kept.has_open ≡ true → kept.automatic ≡ latest auto day last
    → ((asked : ℕ) → is_since last asked ≡ has_automatic_since payments invoice asked)
    → AreKept (with_attempt payments key (purchase_of invoice paid day auto)) taken
    (put by_words (invoice ∷ []) kept invoices)
AreKept-purchased payments taken invoices key invoice paid day auto kept last are fresh idle opens automatics
    before =
    AreKept-put_invoice payments (with_attempt payments key (purchase_of invoice paid day auto)) taken
    invoices invoice kept are
    (λ of. let sums =
    taken_of-new payments key (purchase_of invoice paid day auto) fresh of in omega (arith, ints))
    (ap (λ b. if b then pos 1 else pos 0) opens ∙ one)
    since
    (λ other is. same-sums payments key invoice paid day auto other fresh is)
  where
    one : pos 1 ≡ open_purchases (with_attempt payments key (purchase_of invoice paid day auto)) invoice
    one =
        let sums = open_purchases-new payments key (purchase_of invoice paid day auto) fresh invoice in
        let here = open_by-here invoice paid day auto in
        let none = idle in
        omega (arith, ints)

    since : (asked : ℕ)
        → is_since kept.automatic asked
        ≡ has_automatic_since (with_attempt payments key (purchase_of invoice paid day auto)) invoice asked
    since asked =
        ap (λ o. is_since o asked) automatics
        ∙ latest-is_since auto day last asked
        ∙ ap ((auto && nat_le asked day) ||◌) (before asked)
        ∙ sym (list_any-put_new by_words (λ (a : Attempt). is_automatic invoice a && nat_le asked a.day) key
        (purchase_of invoice paid day auto) payments fresh
        ∙ ap (λ b. ((b && auto) && nat_le asked day) || has_automatic_since payments invoice asked)
        (eq-eqb invoice invoice refl))
